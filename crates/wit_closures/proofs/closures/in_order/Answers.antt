use Rattle.std.proofs.Common.{◌≡◌, ℕ, ◌<◌, ◌⊎◌, inl, inr, List, [], ◌∷◌, ◌++◌, refl, sym, subst, ap, ◌∙◌, arith, length}
use Rattle.wit_order.specs.Order.{Has}
use Rattle.wit_order.proofs.Lists.{has_more, has_was, has_last}
use Rattle.wit_order.proofs.Steps.{above_apart}
use Rattle.wit_reach.specs.Paths.{AreRising}
use Rattle.wit_reach.proofs.Lists.{rising_append, none_left}
use Rattle.wit_closures.proofs.closures.in_order.Goals as goal

pub loop-index-init : goal.loop-index-init
loop-index-init c =
    let empty : c.new-found.result.items ≡ [] = c.new-found.ensures.items in
    let none : (j : ℕ) → Has c.new-found.result.items j → ⊥ = λ j h. subst (λ (l : List ℕ). Has l j) empty h in
    record {
      rising = subst AreRising (sym empty) tt;
      apart = λ x y h k. absurd (none x h);
      all = λ j h. inr h;
      only = λ j h. elim h as (λ _. Has c.args.set.keys j) [ inl found ↦ absurd (none j found) | inr left ↦ left ];
    }

pub loop-index-preserved : goal.loop-index-preserved
loop-index-preserved c =
    let old : List ℕ = c.loop-index.left.keys in
    let left : List ℕ = c.pop_first.new.self.keys in
    let found : List ℕ = c.loop-index.found.items in
    let new : List ℕ = c.push.new.self.items in
    let x : ℕ = c.in-Some.index in
    let inv = c.loop-index.invariant in
    let removal : old ≡ x ∷ left = c.in-Some.ensures.removal in
    let is : new ≡ found ++ x ∷ [] = c.in_ok-push.ensures.items ∙ ap (λ (k : ℕ). found ++ k ∷ []) c.from_index.ensures in
    let from : (j : ℕ) → (j ≡ x) ⊎ Has left j → Has old j = λ j h. subst (λ (l : List ℕ). Has l j) (sym removal) h in
    let cases : (j : ℕ) → Has new j → (j ≡ x) ⊎ Has found j = λ j h. has_more found x j (subst (λ (l : List ℕ). Has l j) is h) in
    let to : (j : ℕ) → Has (found ++ x ∷ []) j → Has new j = λ j h. subst (λ (l : List ℕ). Has l j) (sym is) h in
    record {
      rising = subst AreRising (sym is) (rising_append found x inv.rising (λ y h. inv.apart y x h (from x (inl refl))));
      apart = λ y z h k. elim (cases y h) as (λ _. y < z) [
        | inl here ↦ subst (λ (w : ℕ). w < z) (sym here) (above_apart x left z c.in-Some.ensures.all_above k)
        | inr was ↦ inv.apart y z was (from z (inr k))
      ];
      all = λ j h. elim (inv.all j h) as (λ _. Has new j ⊎ Has left j) [
        | inl was ↦ inl (to j (has_was found (x ∷ []) j was))
        | inr later ↦ elim (subst (λ (l : List ℕ). Has l j) removal later) as (λ _. Has new j ⊎ Has left j) [
          | inl here ↦ inl (to j (subst (λ (k : ℕ). Has (found ++ x ∷ []) k) (sym here) (has_last found x)))
          | inr after ↦ inr after
        ]
      ];
      only = λ j h. elim h as (λ _. Has c.args.set.keys j) [
        | inl stands ↦ elim (cases j stands) as (λ _. Has c.args.set.keys j) [ inl here ↦ inv.only j (inr (from j (inl here))) | inr was ↦ inv.only j (inl was) ]
        | inr after ↦ inv.only j (inr (from j (inr after)))
      ];
    }

pub loop-index-smaller : goal.loop-index-smaller
loop-index-smaller c =
    let one_less : length c.loop-index.left.keys ≡ length (c.in-Some.index ∷ c.pop_first.new.self.keys) = ap (λ (l : List ℕ). length l) c.in-Some.ensures.removal in
    let less : length c.pop_first.new.self.keys < length c.loop-index.left.keys = omega (arith, one_less) in
    less

pub returns-clause-rising : goal.returns-clause-rising
returns-clause-rising c = c.loop-index.invariant.rising

pub returns-clause-same : goal.returns-clause-same
returns-clause-same c j =
    let found : List ℕ = c.loop-index.found.items in
    let none : c.loop-index.left.keys ≡ [] = none_left _ c.loop-index.left.keys c.pop_first.ensures.variant c.in_default.is in (
      (λ h. c.loop-index.invariant.only j (inl h)),
      (λ h. elim (c.loop-index.invariant.all j h) as (λ _. Has found j) [ inl stands ↦ stands | inr left ↦ absurd (subst (λ (l : List ℕ). Has l j) none left) ]),
    )
