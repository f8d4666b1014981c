-- Items of lists by their places.
use Rattle.std.proofs.Common.{◌≡◌, ◌<◌, ℕ, zero, suc, List, [], ◌∷◌, length, map, Some, refl, sym, ap, subst, inl, inr, arith}
use Rattle.std.specs.Prelude.{slice_get}
use Rattle.std.specs.List.{AllByRecursion as Each}
use Rattle.wit_order.specs.Order.{Has}

pub get_has : {A : Type 0} (xs : List A) (k : ℕ) (x : A) → slice_get xs k ≡ Some x → Has xs x
get_has [] k x at = absurd cc
get_has (y ∷ ys) zero x at = inl (let e : y ≡ x = cc in sym e)
get_has (y ∷ ys) (suc k) x at = inr (get_has ys k x at)

pub get_there : {A : Type 0} (xs : List A) (k : ℕ) → k < length xs → (x : A) × (slice_get xs k ≡ Some x)
get_there [] k lt = absurd (omega (arith, lt))
get_there (x ∷ xs) zero lt = (x, refl)
get_there (x ∷ xs) (suc k) lt = get_there xs k (omega (arith, lt))

pub get_map : {A B : Type 0} (f : A → B) (xs : List A) (k : ℕ) (x : A) → slice_get xs k ≡ Some x → slice_get (map f xs) k ≡ Some (f x)
get_map f [] k x at = absurd cc
get_map f (y ∷ xs) zero x at = (let e : y ≡ x = cc in ap (λ z. Some (f z)) e)
get_map f (y ∷ xs) (suc k) x at = get_map f xs k x at

pub map_got : {A B : Type 0} (f : A → B) (xs : List A) (k : ℕ) (y : B) → slice_get (map f xs) k ≡ Some y → (x : A) × (slice_get xs k ≡ Some x) × (f x ≡ y)
map_got f [] k y at = absurd cc
map_got f (x ∷ xs) zero y at = (x, refl, cc)
map_got f (x ∷ xs) (suc k) y at = map_got f xs k y at

pub each_at : {A : Type 0} (P : A → Type 0) (xs : List A) (k : ℕ) (x : A) → Each P xs → slice_get xs k ≡ Some x → P x
each_at P [] k x a at = absurd cc
each_at P (y ∷ xs) zero x a at = (let e : y ≡ x = cc in subst P e a.0)
each_at P (y ∷ xs) (suc k) x a at = each_at P xs k x a.1 at

pub each_of : {A : Type 0} (P : A → Type 0) (xs : List A) → ((x : A) → Has xs x → P x) → Each P xs
each_of P [] h = tt
each_of P (x ∷ xs) h = (h x (inl refl), each_of P xs (λ y has. h y (inr has)))
