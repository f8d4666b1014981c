-- What stands in lists.
use Rattle.std.proofs.Common.{◌≡◌, ℕ, zero, suc, List, [], ◌∷◌, ◌++◌, ◌⊎◌, inl, inr, length, Some, refl, sym, ap, arith, map}
use Rattle.std.proofs.lemmas.Option.{same_Some}
use Rattle.std.specs.Prelude.{slice_get}
use Rattle.wit_arena.specs.Meaning.{Has}

module _ {X : Type 0} where
  pub get_kept : (xs ys : List X) (i : ℕ) (x : X) → slice_get xs i ≡ Some x → slice_get (xs ++ ys) i ≡ Some x
  get_kept [] ys i x h = absurd cc
  get_kept (y ∷ xs) ys zero x h = h
  get_kept (y ∷ xs) ys (suc i) x h = get_kept xs ys i x h

  pub get_last : (xs : List X) (x : X) → slice_get (xs ++ x ∷ []) (length xs) ≡ Some x
  get_last [] x = refl
  get_last (y ∷ xs) x = get_last xs x

  -- what stands in a list and one more stands in the list, or is that one
  pub get_more : (xs : List X) (y x : X) (i : ℕ) → slice_get (xs ++ y ∷ []) i ≡ Some x → (slice_get xs i ≡ Some x) ⊎ ((i ≡ length xs) × (x ≡ y))
  get_more [] y x zero h = inr (refl, sym (same_Some y x h))
  get_more [] y x (suc i) h = absurd cc
  get_more (z ∷ xs) y x zero h = inl h
  get_more (z ∷ xs) y x (suc i) h =
      elim (get_more xs y x i h) as (λ _. (slice_get (z ∷ xs) (suc i) ≡ Some x) ⊎ ((suc i ≡ length (z ∷ xs)) × (x ≡ y))) [
        | inl a ↦ inl a
        | inr b ↦ inr ((let e : i ≡ length xs = b.0 in omega arith), b.1)
      ]

  pub get_split : (b : List X) (i : ℕ) (d : X) → slice_get b i ≡ Some d → (xs : List X) × (ys : List X) × (b ≡ xs ++ d ∷ ys) × (length xs ≡ i)
  get_split [] i d h = absurd cc
  get_split (x ∷ b) zero d h = ([], b, ap (λ (y : X). y ∷ b) (same_Some x d h), refl)
  get_split (x ∷ b) (suc i) d h =
      let r = get_split b i d h in
      (x ∷ r.0, r.1, ap (λ (ys : List X). x ∷ ys) r.2, (let l : length r.0 ≡ i = r.3 in omega arith))

module _ {X : Type 0} where
  pub has_none : (x : X) → Has [] x → ⊥
  has_none x (k, e) = absurd cc

  pub has_here : (x : X) (xs : List X) → Has (x ∷ xs) x
  has_here x xs = (zero, refl)

  pub has_later : (y : X) (xs : List X) (x : X) → Has xs x → Has (y ∷ xs) x
  has_later y xs x (k, e) = (suc k, e)

  pub has_cases : (y : X) (xs : List X) (x : X) → Has (y ∷ xs) x → (x ≡ y) ⊎ Has xs x
  has_cases y xs x (zero, e) = inl (sym (same_Some y x e))
  has_cases y xs x (suc k, e) = inr (k, e)

  pub has_left : (xs ys : List X) (x : X) → Has xs x → Has (xs ++ ys) x
  has_left xs ys x (k, e) = (k, get_kept xs ys k x e)

  pub has_right : (xs ys : List X) (x : X) → Has ys x → Has (xs ++ ys) x
  has_right [] ys x h = h
  has_right (z ∷ xs) ys x h = has_later z (xs ++ ys) x (has_right xs ys x h)

pub has_map : {X Y : Type 0} (f : X → Y) (xs : List X) (x : X) → Has xs x → Has (map f xs) (f x)
has_map f [] x h = absurd (has_none x h)
has_map f (y ∷ ys) x (zero, e) = (zero, ap (λ z. Some (f z)) (same_Some y x e))
has_map f (y ∷ ys) x (suc k, e) = has_later (f y) (map f ys) (f x) (has_map f ys x (k, e))

pub map_has : {X Y : Type 0} (f : X → Y) (xs : List X) (y : Y) → Has (map f xs) y → (x : X) × Has xs x × (y ≡ f x)
map_has {X} {Y} f [] y h = absurd (has_none y h)
map_has {X} {Y} f (z ∷ xs) y (zero, e) = (z, has_here z xs, sym (same_Some (f z) y e))
map_has {X} {Y} f (z ∷ xs) y (suc k, e) = (let r = map_has f xs y (k, e) in (r.0, has_later z xs r.0 r.1, r.2))
