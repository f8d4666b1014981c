-- Lists, tests and look-ups.
use Rattle.std.proofs.Common.{◌≡◌, ℕ, suc, List, [], ◌∷◌, ◌++◌, length, Bool, true, false, Some, refl, sym, ap, ◌∙◌, eq-eqb, append_assoc, inl, inr}
use Rattle.std.specs.Prelude.{map, filter, slice_get, bytes_eq}
use Rattle.std.specs.List.{AllByRecursion as Each, list_any}
use Rattle.std.proofs.lemmas.Bool.{cases_Bool}
use Rattle.std.proofs.lemmas.Slice.Eq.{bytes_eq-Decides}
use Rattle.wasm_types.specs.declared.types.ValType.{ValType}
use Rattle.wasm_types.specs.Types.{FuncTypeValue}
use Rattle.wit_component.specs.Meaning.{value_code, same_values, same_core_type}
use Rattle.wit_component.specs.Right.{IsIn, SameItems}

-- ---- tests

pub bytes_eq_refl : (xs : List ℕ) → bytes_eq xs xs ≡ true
bytes_eq_refl xs = (bytes_eq-Decides xs xs).1 refl

pub bytes_eq_is : (xs ys : List ℕ) → bytes_eq xs ys ≡ true → xs ≡ ys
bytes_eq_is xs ys h = (bytes_eq-Decides xs ys).0 h

pub same_values_refl : (vs : List ValType) → same_values vs vs ≡ true
same_values_refl [] = refl
same_values_refl (v ∷ vs) = rw (eq-eqb (value_code v) (value_code v) refl) (same_values_refl vs)

pub same_core_type_refl : (t : FuncTypeValue) → same_core_type t t ≡ true
same_core_type_refl t = rw (same_values_refl t.params) (same_values_refl t.results)

-- a test of the views is a test of what they are views of
pub list_any_map : {X Y : Type 0} (test : Y → Bool) (f : X → Y) (xs : List X) → list_any test (map f xs) ≡ list_any (λ x. test (f x)) xs
list_any_map test f [] = refl
list_any_map test f (x ∷ xs) = rw (list_any_map test f xs) refl

-- ---- places in a list

pub slice_get_at : {X : Type 0} (front : List X) (x : X) (back : List X) (k : ℕ) → length front ≡ k → slice_get (front ++ x ∷ back) k ≡ Some x
slice_get_at [] x back k e = rw (← e) refl
slice_get_at (y ∷ front) x back k e = rw (← e) (slice_get_at front x back (length front) refl)

pub length_one_more : {X : Type 0} (front : List X) (x : X) (k : ℕ) → length front ≡ k → length (front ++ x ∷ []) ≡ suc k
length_one_more [] x k e = ap suc e
length_one_more (y ∷ front) x k e = ap suc (length_one_more front x (length front) refl) ∙ ap suc e

-- a list in two parts, with one more in the first
pub moved : {X : Type 0} (all front : List X) (x : X) (xs : List X) → all ≡ front ++ x ∷ xs → all ≡ (front ++ x ∷ []) ++ xs
moved all front x xs e = e ∙ sym (append_assoc front (x ∷ []) xs)

-- ---- what is in a list

pub each_in : {X : Type 0} (P : X → Type 0) (xs : List X) → ((x : X) → IsIn x xs → P x) → Each P xs
each_in P [] h = tt
each_in P (x ∷ xs) h = (h x (inl refl), each_in P xs (λ y k. h y (inr k)))

pub each_at : {X : Type 0} (P : X → Type 0) (xs : List X) (x : X) → Each P xs → IsIn x xs → P x
each_at P [] x h k = absurd k
each_at P (y ∷ xs) x h (inl e) = rw e h.0
each_at P (y ∷ xs) x h (inr k) = each_at P xs x h.1 k

pub each_map : {X Y : Type 0} (P : Y → Type 0) (f : X → Y) (xs : List X) → ((x : X) → IsIn x xs → P (f x)) → Each P (map f xs)
each_map P f [] h = tt
each_map P f (x ∷ xs) h = (h x (inl refl), each_map P f xs (λ y m. h y (inr m)))

pub in_map : {X Y : Type 0} (f : X → Y) (xs : List X) (x : X) → IsIn x xs → IsIn (f x) (map f xs)
in_map f [] x k = absurd k
in_map f (y ∷ xs) x (inl e) = inl (ap f e)
in_map f (y ∷ xs) x (inr k) = inr (in_map f xs x k)

pub same_items_refl : {X : Type 0} (xs : List X) → SameItems xs xs
same_items_refl xs = record { each = each_in (λ x. IsIn x xs) xs (λ x m. m); only = each_in (λ x. IsIn x xs) xs (λ x m. m) }

pub any_in : {X : Type 0} (test : X → Bool) (xs : List X) (x : X) → test x ≡ true → IsIn x xs → list_any test xs ≡ true
any_in test [] x t k = absurd k
any_in test (y ∷ xs) x t (inl e) = let u : test y ≡ true = rw (← e) t in rw u refl
any_in test (y ∷ xs) x t (inr k) = let r = any_in test xs x t k in elim (cases_Bool (test y)) [ inl u ↦ rw u refl | inr u ↦ rw u r ]

-- ---- filters

pub filter_yes : {X : Type 0} (test : X → Bool) (x : X) (xs : List X) → test x ≡ true → filter test (x ∷ xs) ≡ x ∷ filter test xs
filter_yes test x xs t = rw t refl

pub filter_no : {X : Type 0} (test : X → Bool) (x : X) (xs : List X) → test x ≡ false → filter test (x ∷ xs) ≡ filter test xs
filter_no test x xs t = rw t refl

pub from_filter : {X : Type 0} (test : X → Bool) (xs : List X) (x : X) → IsIn x (filter test xs) → IsIn x xs × (test x ≡ true)
from_filter test [] x k = absurd k
from_filter test (y ∷ xs) x k = elim (cases_Bool (test y)) [
  | inl u ↦ elim (rw u at k) [ inl e ↦ (inl e, rw e u) | inr r ↦ (inr (from_filter test xs x r).0, (from_filter test xs x r).1) ]
  | inr u ↦ (inr (from_filter test xs x (rw u at k)).0, (from_filter test xs x (rw u at k)).1)
]

-- the one item that passes is one of the list
pub only_one : {X : Type 0} (test : X → Bool) (xs : List X) (x : X) → filter test xs ≡ x ∷ [] → IsIn x xs × (test x ≡ true)
only_one test xs x e = from_filter test xs x (rw e (inl refl))

-- two filters in either order
pub filter_swap : {X : Type 0} (test keep : X → Bool) (xs : List X) → filter test (filter keep xs) ≡ filter keep (filter test xs)
filter_swap test keep [] = refl
filter_swap test keep (x ∷ xs) =
    let rest = filter_swap test keep xs in
    elim (cases_Bool (test x)) [
      | inl t ↦ elim (cases_Bool (keep x)) [ inl k ↦ rw (k, t, k) (ap (λ ys. x ∷ ys) rest) | inr k ↦ rw (k, t, k) rest ]
      | inr t ↦ elim (cases_Bool (keep x)) [ inl k ↦ rw (k, t) rest | inr k ↦ rw (k, t) rest ]
    ]

-- the one item that passes is the one that passes of those that are kept
pub only_kept : {X : Type 0} (test keep : X → Bool) (xs : List X) (x : X) → filter test xs ≡ x ∷ [] → keep x ≡ true → filter test (filter keep xs) ≡ x ∷ []
only_kept test keep xs x e k = filter_swap test keep xs ∙ ap (filter keep) e ∙ filter_yes keep x [] k
