-- Texts at their first dot.
use Rattle.std.proofs.Common.{◌≡◌, ◌≢◌, ◌<◌, ℕ, List, ◌∷◌, ◌++◌, ◌∙◌, sym, subst, arith, length, take, min, get_or, eqb, true, false, eq-eqb, eqb-true}
use Rattle.std.specs.List.{position_or_len, before_first, after_first}
use Rattle.std.proofs.lemmas.List.{length-take, get_or-take}
use Rattle.std.proofs.lemmas.List.Sums.{fails_before_first, passes_at_first, split_at_first}
use Rattle.wit_types.specs.Function.{HasNoDot}

no_dot_at : (xs : List ℕ) (i d : ℕ) → i < position_or_len (λ b. eqb b 46) xs → get_or xs i d ≢ 46
no_dot_at xs i d l e =
    let f : eqb (get_or xs i d) 46 ≡ false = fails_before_first (λ b. eqb b 46) xs i d l in
    let t : eqb (get_or xs i d) 46 ≡ true = eq-eqb (get_or xs i d) 46 e in
    cc

-- a text without one
pub no_dot : (xs : List ℕ) → position_or_len (λ b. eqb b 46) xs ≡ length xs → HasNoDot xs
no_dot xs e = λ i d l. no_dot_at xs i d (omega arith)

-- what stands before it has none
pub no_dot_before : (xs front : List ℕ) → front ≡ before_first (λ b. eqb b 46) xs → HasNoDot front
no_dot_before xs front same = subst HasNoDot (sym same) (λ i d l e.
    let n : ℕ = position_or_len (λ b. eqb b 46) xs in
    let short : length (take n xs) ≡ min n (length xs) = length-take n xs in
    let l2 : i < length (take n xs) = l in
    let below : i < n = omega arith in
    no_dot_at xs i d below (sym (get_or-take n xs i d below) ∙ e))

-- and it stands between that and the rest
pub split_at_dot : (xs front item : List ℕ) → position_or_len (λ b. eqb b 46) xs < length xs → front ≡ before_first (λ b. eqb b 46) xs → item ≡ after_first (λ b. eqb b 46) xs
    → xs ≡ front ++ 46 ∷ item
split_at_dot xs front item l ef ei =
    let dot : get_or xs (position_or_len (λ b. eqb b 46) xs) 0 ≡ 46 = eqb-true (get_or xs (position_or_len (λ b. eqb b 46) xs) 0) 46 (passes_at_first (λ b. eqb b 46) xs 0 l) in
    subst (λ (f : List ℕ). xs ≡ f ++ 46 ∷ item) (sym ef) (subst (λ (i : List ℕ). xs ≡ before_first (λ b. eqb b 46) xs ++ 46 ∷ i) (sym ei)
    (subst (λ (d : ℕ). xs ≡ before_first (λ b. eqb b 46) xs ++ d ∷ after_first (λ b. eqb b 46) xs) dot (split_at_first (λ b. eqb b 46) xs 0 l)))
