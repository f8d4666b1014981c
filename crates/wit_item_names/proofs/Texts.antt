-- Texts without a mark.
use Rattle.std.proofs.Common.{◌≡◌, ℕ, suc, Bool, true, false, List, [], ◌∷◌, ◌++◌, inl, inr, refl, sym, ap, ◌∙◌, arith, nat_eq}
use Rattle.std.proofs.lemmas.Bool.{eq-eqb}
use Rattle.std.specs.List.{list_any}
use Rattle.std.specs.Prelude.{◌||◌}
use Rattle.wit_order.specs.Order.{Has}
use Rattle.wit_order.proofs.Lists.{has_was}
use Rattle.wit_reach.proofs.Lists.{has_append, has_parts}
use Rattle.wit_types.specs.Function.{HasNoDot}
use Rattle.wit_labels.specs.Passed.wit_plain_texts-Plain.{IsWithout}

-- the mark is where it first stands
pub split_mark : (mark : ℕ) (xs ys more rest : List ℕ) → IsWithout mark xs → IsWithout mark ys → xs ++ mark ∷ more ≡ ys ++ mark ∷ rest → (xs ≡ ys) × (more ≡ rest)
split_mark mark [] [] more rest a b e = (refl, cc)
split_mark mark [] (y ∷ ys) more rest a b e = absurd (b (inl (cc)))
split_mark mark (x ∷ xs) [] more rest a b e = absurd (a (inl (cc)))
split_mark mark (x ∷ xs) (y ∷ ys) more rest a b e =
    let first : x ≡ y = cc in
    let later : xs ++ mark ∷ more ≡ ys ++ mark ∷ rest = cc in
    let r = split_mark mark xs ys more rest (λ h. a (inr h)) (λ h. b (inr h)) later in
    (ap (λ (z : ℕ). z ∷ xs) first ∙ ap (λ (zs : List ℕ). y ∷ zs) r.0, r.1)

pub has_mark : (mark : ℕ) (xs more : List ℕ) → Has (xs ++ mark ∷ more) mark
has_mark mark [] more = inl refl
has_mark mark (x ∷ xs) more = inr (has_mark mark xs more)

-- 46 is `.`
pub no_dot_without : (xs : List ℕ) → HasNoDot xs → IsWithout 46 xs
no_dot_without [] isnt h = h
no_dot_without (x ∷ xs) isnt (inl here) = isnt 0 0 (omega arith) (sym here)
no_dot_without (x ∷ xs) isnt (inr later) = no_dot_without xs (λ i d l. isnt (suc i) d (omega arith)) later

-- ---- parts

pub without_both : (mark : ℕ) (xs ys : List ℕ) → IsWithout mark xs → IsWithout mark ys → IsWithout mark (xs ++ ys)
without_both mark xs ys a b h = elim (has_parts xs ys mark h) as (λ _. ⊥) [ inl x ↦ a x | inr y ↦ b y ]

pub without_first : (mark : ℕ) (xs ys : List ℕ) → IsWithout mark (xs ++ ys) → IsWithout mark xs
without_first mark xs ys isnt h = isnt (has_was xs ys mark h)

pub without_second : (mark : ℕ) (xs ys : List ℕ) → IsWithout mark (xs ++ ys) → IsWithout mark ys
without_second mark xs ys isnt h = isnt (has_append xs ys mark h)

or_later : (a b : Bool) → (a || b) ≡ false → b ≡ false
or_later true b e = absurd cc
or_later false b e = e

-- by a test
pub without_by : (mark : ℕ) (xs : List ℕ) → list_any (nat_eq mark) xs ≡ false → IsWithout mark xs
without_by mark [] e h = h
without_by mark (x ∷ xs) e (inl here) = (let same : nat_eq mark x ≡ true = eq-eqb mark x here in let isnt : (true || list_any (nat_eq mark) xs) ≡ false = sym (ap (λ (b : Bool). b || list_any (nat_eq mark) xs) same) ∙ e in absurd cc)
without_by mark (x ∷ xs) e (inr later) = without_by mark xs (or_later (nat_eq mark x) (list_any (nat_eq mark) xs) e) later
