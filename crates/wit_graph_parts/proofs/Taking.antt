-- The first so many of a list, and the others.
use Rattle.std.proofs.lemmas.List.{append-nil}
use Rattle.std.proofs.Common.{◌≡◌, ℕ, ◌+◌, ◌-◌, ◌<◌, ◌≤◌, zero, suc, List, [], ◌∷◌, ◌++◌, refl, sym, ap, ◌∙◌, arith, length, take, drop, length-append, append_assoc}

module _ {X : Type 0} where
  -- so far, with what is left
  pub record AreHalves (n : ℕ) (all first others rest : List X) : Type 0 where
    pub first_are : take n all ≡ first ++ take (n - length first) rest
    pub others_are : drop n all ≡ others ++ drop (n - length first) rest
    pub at_most : length first ≤ n

  pub no_halves : (n : ℕ) (all first others rest : List X) → first ≡ [] → others ≡ [] → rest ≡ all → AreHalves n all first others rest
  no_halves n all [] [] rest f o r = record {
    first_are = ap (take n) (sym r) ∙ ap (λ (k : ℕ). take k rest) (let e : n ≡ n - 0 = omega arith in e);
    others_are = ap (drop n) (sym r) ∙ ap (λ (k : ℕ). drop k rest) (let e : n ≡ n - 0 = omega arith in e);
    at_most = omega arith;
  }
  no_halves n all (x ∷ first) others rest f o r = absurd cc
  no_halves n all [] (x ∷ others) rest f o r = absurd cc

  pub first_more : (n : ℕ) (all first others rest now : List X) (x : X) → rest ≡ x ∷ now → length first < n → AreHalves n all first others rest → AreHalves n all (first ++ x ∷ []) others now
  first_more n all first others rest now x e less h =
      let long : length (first ++ x ∷ []) ≡ length first + 1 = length-append first (x ∷ []) in
      let more : n - length first ≡ suc (n - length (first ++ x ∷ [])) = omega (arith, less, long) in
      record {
        first_are =
            h.first_are ∙ ap (λ (r : List X). first ++ take (n - length first) r) e ∙ ap (λ (k : ℕ). first ++ take k (x ∷ now)) more
            ∙ sym (append_assoc first (x ∷ []) (take (n - length (first ++ x ∷ [])) now));
        others_are = h.others_are ∙ ap (λ (r : List X). others ++ drop (n - length first) r) e ∙ ap (λ (k : ℕ). others ++ drop k (x ∷ now)) more;
        at_most = omega (arith, less, long);
      }

  pub others_more : (n : ℕ) (all first others rest now : List X) (x : X) → rest ≡ x ∷ now → n ≤ length first → AreHalves n all first others rest → AreHalves n all first (others ++ x ∷ []) now
  others_more n all first others rest now x e full h =
      let none : n - length first ≡ 0 = omega (arith, full) in
      record {
        first_are = h.first_are ∙ ap (λ (k : ℕ). first ++ take k rest) none ∙ ap (λ (k : ℕ). first ++ take k now) (sym none);
        others_are =
            h.others_are ∙ ap (λ (k : ℕ). others ++ drop k rest) none ∙ ap (λ (r : List X). others ++ r) e ∙ sym (append_assoc others (x ∷ []) now)
            ∙ ap (λ (k : ℕ). (others ++ x ∷ []) ++ drop k now) (sym none);
        at_most = h.at_most;
      }

  pub halves_done : (n : ℕ) (all first others rest : List X) → rest ≡ [] → AreHalves n all first others rest → (first ≡ take n all) × (others ≡ drop n all)
  halves_done n all first others rest e h = (sym (h.first_are ∙ ap (λ (r : List X). first ++ take (n - length first) r) e ∙ nil_taken first (n - length first)), sym (h.others_are ∙ ap (λ (r : List X). others ++ drop (n - length first) r) e ∙ nil_dropped others (n - length first)))
    where
      nil_taken : (xs : List X) (k : ℕ) → xs ++ take k [] ≡ xs
      nil_taken xs zero = append-nil xs
      nil_taken xs (suc k) = append-nil xs

      nil_dropped : (xs : List X) (k : ℕ) → xs ++ drop k [] ≡ xs
      nil_dropped xs zero = append-nil xs
      nil_dropped xs (suc k) = append-nil xs

  pub take_grown : (xs more : List X) → take (length xs) (xs ++ more) ≡ xs
  take_grown [] [] = refl
  take_grown [] (m ∷ more) = refl
  take_grown (x ∷ xs) more = ap (λ (ys : List X). x ∷ ys) (take_grown xs more)
