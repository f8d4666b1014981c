-- Lists that correspond one by one.
use Rattle.std.proofs.Common.{◌≡◌, ℕ, zero, suc, List, [], ◌∷◌, ◌++◌, length, Some, refl, subst, ap}
use Rattle.std.proofs.lemmas.Option.{same_Some}
use Rattle.std.specs.Prelude.{slice_get}
use Rattle.wit_resources.specs.Passed.wit_arena-Meaning.{Has}
use Rattle.wit_resources.proofs.Passed.wit_arena-Lists.{has_here, has_later}
use Rattle.wit_resolved_scopes.specs.Each.{Each}

module _ {X Y : Type 0} where
  -- one more on each side
  pub each_push : (Is : X → Y → Type 0) (xs : List X) (ys : List Y) (x : X) (y : Y) → Each Is xs ys → Is x y → Each Is (xs ++ x ∷ []) (ys ++ y ∷ [])
  each_push Is [] [] x y e i = (i, tt)
  each_push Is [] (b ∷ ys) x y e i = absurd e
  each_push Is (a ∷ xs) [] x y e i = absurd e
  each_push Is (a ∷ xs) (b ∷ ys) x y e i = (e.0, each_push Is xs ys x y e.1 i)

  -- what follows for each
  pub each_to : (P Q : X → Y → Type 0) (xs : List X) (ys : List Y) → ((x : X) (y : Y) → Has xs x → Has ys y → P x y → Q x y) → Each P xs ys → Each Q xs ys
  each_to P Q [] [] f e = tt
  each_to P Q [] (b ∷ ys) f e = absurd e
  each_to P Q (a ∷ xs) [] f e = absurd e
  each_to P Q (a ∷ xs) (b ∷ ys) f e = (f a b (has_here a xs) (has_here b ys) e.0, each_to P Q xs ys (λ x y h k p. f x y (has_later a xs x h) (has_later b ys y k) p) e.1)

  -- as many on each side
  pub each_length : (Is : X → Y → Type 0) (xs : List X) (ys : List Y) → Each Is xs ys → length xs ≡ length ys
  each_length Is [] [] e = refl
  each_length Is [] (b ∷ ys) e = absurd e
  each_length Is (a ∷ xs) [] e = absurd e
  each_length Is (a ∷ xs) (b ∷ ys) e = ap suc (each_length Is xs ys e.1)

  -- those at one place
  pub each_at : (Is : X → Y → Type 0) (xs : List X) (ys : List Y) → Each Is xs ys → (k : ℕ) (x : X) (y : Y) → slice_get xs k ≡ Some x → slice_get ys k ≡ Some y → Is x y
  each_at Is [] ys e k x y at_x at_y = absurd cc
  each_at Is (a ∷ xs) [] e k x y at_x at_y = absurd e
  each_at Is (a ∷ xs) (b ∷ ys) e zero x y at_x at_y = subst (λ (z : X). Is z y) (same_Some a x at_x) (subst (Is a) (same_Some b y at_y) e.0)
  each_at Is (a ∷ xs) (b ∷ ys) e (suc k) x y at_x at_y = each_at Is xs ys e.1 k x y at_x at_y

  -- the one that corresponds to the one at a place
  pub each_left : (Is : X → Y → Type 0) (xs : List X) (ys : List Y) → Each Is xs ys → (k : ℕ) (x : X) → slice_get xs k ≡ Some x → (y : Y) × (slice_get ys k ≡ Some y) × Is x y
  each_left Is [] ys e k x at = absurd cc
  each_left Is (a ∷ xs) [] e k x at = absurd e
  each_left Is (a ∷ xs) (b ∷ ys) e zero x at = (b, refl, subst (λ (z : X). Is z b) (same_Some a x at) e.0)
  each_left Is (a ∷ xs) (b ∷ ys) e (suc k) x at = each_left Is xs ys e.1 k x at

  pub each_right : (Is : X → Y → Type 0) (xs : List X) (ys : List Y) → Each Is xs ys → (k : ℕ) (y : Y) → slice_get ys k ≡ Some y → (x : X) × (slice_get xs k ≡ Some x) × Is x y
  each_right Is [] [] e k y at = absurd cc
  each_right Is [] (b ∷ ys) e k y at = absurd e
  each_right Is (a ∷ xs) [] e k y at = absurd cc
  each_right Is (a ∷ xs) (b ∷ ys) e zero y at = (a, refl, subst (Is a) (same_Some b y at) e.0)
  each_right Is (a ∷ xs) (b ∷ ys) e (suc k) y at = each_right Is xs ys e.1 k y at

-- what holds of each, and what holds of each whatever is given
pub each_given : {G X Y : Type 0} (P : X → Y → Type 0) (Q : G → X → Y → Type 0) (xs : List X) (ys : List Y) → Each P xs ys → ((g : G) → Each (Q g) xs ys) → Each (λ x y. P x y × ((g : G) → Q g x y)) xs ys
each_given P Q [] [] e f = tt
each_given P Q [] (b ∷ ys) e f = absurd e
each_given P Q (a ∷ xs) [] e f = absurd e
each_given P Q (a ∷ xs) (b ∷ ys) e f = ((e.0, λ g. (f g).0), each_given P Q xs ys e.1 (λ g. (f g).1))
