-- Lists whose members say the same.
use Rattle.std.proofs.Common.{◌≡◌, ℕ, zero, suc, Bool, ◌||◌, ◌&&◌, List, [], ◌∷◌, ◌++◌, inl, inr, Option, Some, None, refl, sym, ap, ap₂, ◌∙◌, map, flat_map, length, option_map}
use Rattle.std.proofs.lemmas.Option.{same_Some}
use Rattle.std.specs.List.{list_any, list_all}
use Rattle.std.specs.Prelude.{slice_get}
use Rattle.wit_order.specs.Order.{Has}

module _ {X : Type 0} where
  pub head_of : (x y : X) (xs ys : List X) → x ∷ xs ≡ y ∷ ys → x ≡ y
  head_of x y xs ys e = cc

  pub tail_of : (x y : X) (xs ys : List X) → x ∷ xs ≡ y ∷ ys → xs ≡ ys
  tail_of x y xs ys e = cc

  pub not_empty : (x : X) (xs : List X) → [] ≡ x ∷ xs → ⊥
  not_empty x xs e = cc

  pub same_heads : (x y : X) (xs ys : List X) → x ≡ y → xs ≡ ys → x ∷ xs ≡ y ∷ ys
  same_heads x y xs ys e f = ap₂ (λ (z : X) (zs : List X). z ∷ zs) e f

  pub get_has : (xs : List X) (i : ℕ) (x : X) → slice_get xs i ≡ Some x → Has xs x
  get_has [] i x e = absurd cc
  get_has (y ∷ xs) zero x e = inl (sym (same_Some y x e))
  get_has (y ∷ xs) (suc i) x e = inr (get_has xs i x e)

module _ {X Y : Type 0} (f : X → Y) where
  pub map_append : (xs ys : List X) → map f (xs ++ ys) ≡ map f xs ++ map f ys
  map_append [] ys = refl
  map_append (x ∷ xs) ys = ap (λ (zs : List Y). f x ∷ zs) (map_append xs ys)

  pub map_size : (xs : List X) → length (map f xs) ≡ length xs
  map_size [] = refl
  map_size (x ∷ xs) = ap suc (map_size xs)

  pub get_mapped : (xs : List X) (i : ℕ) → slice_get (map f xs) i ≡ option_map f (slice_get xs i)
  get_mapped [] i = refl
  get_mapped (x ∷ xs) zero = refl
  get_mapped (x ∷ xs) (suc i) = get_mapped xs i

  some_mapped : (o : Option X) (y : Y) → option_map f o ≡ Some y → (x : X) × (o ≡ Some x) × (f x ≡ y)
  some_mapped None y e = absurd cc
  some_mapped (Some x) y e = (x, refl, same_Some (f x) y e)

  -- lists whose members say the same have as many, and the same at each place
  pub same_size : (xs ys : List X) → map f xs ≡ map f ys → length xs ≡ length ys
  same_size xs ys e = sym (map_size xs) ∙ ap (λ (zs : List Y). length zs) e ∙ map_size ys

  pub same_get : (xs ys : List X) → map f xs ≡ map f ys → (i : ℕ) → option_map f (slice_get xs i) ≡ option_map f (slice_get ys i)
  same_get xs ys e i = sym (get_mapped xs i) ∙ ap (λ (zs : List Y). slice_get zs i) e ∙ get_mapped ys i

  pub same_at : (xs ys : List X) → map f xs ≡ map f ys → (i : ℕ) (x : X) → slice_get xs i ≡ Some x → (y : X) × (slice_get ys i ≡ Some y) × (f y ≡ f x)
  same_at xs ys e i x at = some_mapped (slice_get ys i) (f x) (sym (same_get xs ys e i) ∙ ap (option_map f) at)

  pub same_append : (xs ys vs ws : List X) → map f xs ≡ map f vs → map f ys ≡ map f ws → map f (xs ++ ys) ≡ map f (vs ++ ws)
  same_append xs ys vs ws e g = map_append xs ys ∙ ap₂ (λ (a b : List Y). a ++ b) e g ∙ sym (map_append vs ws)

module _ {X Y Z : Type 0} (f : X → Y) (g : Y → Z) where
  pub map_twice : (xs : List X) → map g (map f xs) ≡ map (λ (x : X). g (f x)) xs
  map_twice [] = refl
  map_twice (x ∷ xs) = ap (λ (zs : List Z). g (f x) ∷ zs) (map_twice xs)

module _ {X Y Z : Type 0} (f : X → Y) (g : Y → List Z) where
  pub flat_twice : (xs : List X) → flat_map g (map f xs) ≡ flat_map (λ (x : X). g (f x)) xs
  flat_twice [] = refl
  flat_twice (x ∷ xs) = ap (λ (zs : List Z). g (f x) ++ zs) (flat_twice xs)

module _ {X Y : Type 0} (f : X → Y) (g : Y → Bool) where
  pub any_twice : (xs : List X) → list_any g (map f xs) ≡ list_any (λ (x : X). g (f x)) xs
  any_twice [] = refl
  any_twice (x ∷ xs) = ap (λ (b : Bool). g (f x) || b) (any_twice xs)

  pub all_twice : (xs : List X) → list_all g (map f xs) ≡ list_all (λ (x : X). g (f x)) xs
  all_twice [] = refl
  all_twice (x ∷ xs) = ap (λ (b : Bool). g (f x) && b) (all_twice xs)
