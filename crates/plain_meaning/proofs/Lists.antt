-- Lists, options and tests.
use Rattle.std.proofs.Common.{◌≡◌, ℕ, zero, suc, ◌<◌, List, [], ◌∷◌, ◌++◌, length, Option, Some, None, refl, ap, inl, inr, arith}
use Rattle.std.specs.Prelude.{map, slice_get, option_map, option_and_then}
use Rattle.std.specs.List.{AllByRecursion as Each, AllZip, flat_map}
use Rattle.wit_order.specs.Order.{Has}
use Rattle.wit_component.specs.Right.{IsIn}

-- pairs of items, one behind the other
pub zip_append : {A B : Type 0} (R : A → B → Type 0) (xs more : List A) (ys others : List B) → AllZip R xs ys → AllZip R more others → AllZip R (xs ++ more) (ys ++ others)
zip_append R [] more [] others h k = k
zip_append R [] more (y ∷ ys) others h k = absurd h
zip_append R (x ∷ xs) more [] others h k = absurd h
zip_append R (x ∷ xs) more (y ∷ ys) others h k = (h.0, zip_append R xs more ys others h.1 k)

pub map_twice : {A B C : Type 0} (f : A → B) (g : B → C) (xs : List A) → map g (map f xs) ≡ map (λ x. g (f x)) xs
map_twice f g [] = refl
map_twice f g (x ∷ xs) = ap (λ ys. g (f x) ∷ ys) (map_twice f g xs)

-- an index into a space whose items may stand for nothing
pub item_of_map : {A B : Type 0} (f : A → B) (o : Option (Option A)) → option_and_then (λ x. x) (option_map (option_map f) o) ≡ option_map f (option_and_then (λ x. x) o)
item_of_map f None = refl
item_of_map f (Some o) = refl

-- ---- what is in a list

pub in_has : {X : Type 0} (x : X) (xs : List X) → IsIn x xs → Has xs x
in_has x [] h = absurd h
in_has x (y ∷ ys) (inl here) = inl here
in_has x (y ∷ ys) (inr later) = inr (in_has x ys later)

pub has_in : {X : Type 0} (x : X) (xs : List X) → Has xs x → IsIn x xs
has_in x [] h = absurd h
has_in x (y ∷ ys) (inl here) = inl here
has_in x (y ∷ ys) (inr later) = inr (has_in x ys later)

-- what is in a list that is made of another is made of something there
pub of_map : {X Y : Type 0} (f : X → Y) (xs : List X) (y : Y) → IsIn y (map f xs) → (x : X) × IsIn x xs × (y ≡ f x)
of_map f [] y h = absurd h
of_map f (x ∷ xs) y (inl here) = (x, inl refl, here)
of_map f (x ∷ xs) y (inr later) = let r = of_map f xs y later in (r.0, inr r.1, r.2)

-- ---- what holds of each

pub each_append : {X : Type 0} (P : X → Type 0) (xs ys : List X) → Each P xs → Each P ys → Each P (xs ++ ys)
each_append P [] ys h k = k
each_append P (x ∷ xs) ys h k = (h.0, each_append P xs ys h.1 k)

pub each_more : {X : Type 0} (P Q : X → Type 0) → ((x : X) → P x → Q x) → (xs : List X) → Each P xs → Each Q xs
each_more P Q one [] h = tt
each_more P Q one (x ∷ xs) h = (one x h.0, each_more P Q one xs h.1)

pub each_flat : {X Y : Type 0} (P : Y → Type 0) (f : X → List Y) (xs : List X) → Each (λ x. Each P (f x)) xs → Each P (flat_map f xs)
each_flat P f [] h = tt
each_flat P f (x ∷ xs) h = each_append P (f x) (flat_map f xs) h.0 (each_flat P f xs h.1)

pub each_get : {X : Type 0} (P : X → Type 0) (xs : List X) (k : ℕ) → Each P xs → k < length xs → (x : X) × (slice_get xs k ≡ Some x) × P x
each_get P [] k h lt = absurd (omega arith)
each_get P (x ∷ xs) zero h lt = (x, refl, h.0)
each_get P (x ∷ xs) (suc k) h lt = each_get P xs k h.1 (omega arith)
