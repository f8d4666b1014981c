-- Packages that are taken in an order, one more at a time.
use Rattle.std.proofs.Common.{◌≡◌, ℕ, ◌<◌, ◌≤◌, ◌+◌, zero, suc, List, [], ◌∷◌, ◌++◌, inl, inr, Option, Some, None, map, take, length, get_or, set, refl, sym, subst, ap, ◌∙◌, arith}
use Rattle.std.specs.Prelude.{slice_get, option_map}
use Rattle.std.proofs.lemmas.List.{take_more, take_all, map_push, length-map, length-set}
use Rattle.std.proofs.lemmas.Option.{slice_get_cases, same_Some, slice_get-map}
use Rattle.wit_types.specs.declared.«package».UnresolvedPackage.{UnresolvedPackage}
use Rattle.wit_order.specs.Order.{Has, AreDependenciesFirst, IsOrder}
use Rattle.wit_order.proofs.Lists.{has_get, has_was, has_last}
use Rattle.wit_package_order.specs.Packages.{AreAt}
use Rattle.wit_package_order.specs.Sorted.{AreTaken}

-- ---- each place once

module _ (n : ℕ) (needs : ℕ → ℕ → Type 0) where
  -- what is there before doesn't come again
  later_new : (before is : List ℕ) (x : ℕ) → AreDependenciesFirst n needs before is → Has before x → Has is x → ⊥
  later_new before [] x f was h = h
  later_new before (i ∷ is) x f was h =
      elim h as (λ _. ⊥) [
        | inl here ↦ f.0.0 (subst (Has before) here was)
        | inr later ↦ later_new (i ∷ before) is x f.1 (inr was) later
      ]

  once_from : (before is : List ℕ) (k : ℕ) → AreDependenciesFirst n needs before is → k < length is → Has (take k is) (get_or is k 0) → ⊥
  once_from before [] k f within h = absurd (omega (arith, within))
  once_from before (i ∷ is) zero f within h = h
  once_from before (i ∷ is) (suc k) f within h =
      let here : k < length is = omega (arith, within) in
      elim h as (λ _. ⊥) [
        | inl same ↦ later_new (i ∷ before) is i f.1 (inl refl) (subst (Has is) same (has_get is k here))
        | inr later ↦ once_from (i ∷ before) is k f.1 here later
      ]

  pub once : (order : List ℕ) (k : ℕ) → IsOrder n needs order → k < length order → Has (take k order) (get_or order k 0) → ⊥
  once order k o within h = once_from [] order k o.first within h

  pub order_within : (order : List ℕ) (k : ℕ) → IsOrder n needs order → k < length order → get_or order k 0 < n
  order_within order k o within = o.within (get_or order k 0) (has_get order k within)

-- ---- one more is taken

at_more : (ps : List UnresolvedPackage) (order : List ℕ) (k : ℕ) (sorted : List UnresolvedPackage) (p : UnresolvedPackage) → k < length order → AreAt ps (take k order) sorted → slice_get ps (get_or order k 0) ≡ Some p
    → AreAt ps (take (k + 1) order) (sorted ++ p ∷ [])
at_more ps order k sorted p within are there =
    ap (map (slice_get ps)) (take_more order k 0 within) ∙ map_push (slice_get ps) (take k order) (get_or order k 0)
    ∙ ap (λ (os : List (Option UnresolvedPackage)). os ++ slice_get ps (get_or order k 0) ∷ []) are ∙ ap (λ (o : Option UnresolvedPackage). map (λ (q : UnresolvedPackage). Some q) sorted ++ o ∷ []) there
    ∙ sym (map_push (λ (q : UnresolvedPackage). Some q) sorted p)

set_other : {X : Type 0} (xs : List X) (i j : ℕ) (x : X) → (j ≡ i → ⊥) → slice_get (set xs i x) j ≡ slice_get xs j
set_other [] i j x other = refl
set_other (y ∷ xs) zero zero x other = absurd (other refl)
set_other (y ∷ xs) zero (suc j) x other = refl
set_other (y ∷ xs) (suc i) zero x other = refl
set_other (y ∷ xs) (suc i) (suc j) x other = set_other xs i j x (λ e. other (ap suc e))

module _ (ps : List UnresolvedPackage) (order : List ℕ) (n : ℕ) (needs : ℕ → ℕ → Type 0) (o : IsOrder n needs order) (size : n ≡ length ps) (k : ℕ) (within : k < length order) (slots : List (Option UnresolvedPackage)) (sorted : List UnresolvedPackage) (t : AreTaken ps order k slots sorted) where
  abbrev pub at : ℕ
  at = get_or order k 0

  pub at_below : at < length slots
  at_below = let below : at < n = order_within n needs order k o within in omega (arith, below, size, t.size)

  here : (p : UnresolvedPackage) × (slice_get ps at ≡ Some p)
  here =
      let below : at < n = order_within n needs order k o within in
      elim (slice_get_cases ps at).1 as (λ _. (p : UnresolvedPackage) × (slice_get ps at ≡ Some p)) [
        | inl there ↦ (there.0, there.2)
        | inr behind ↦ let short : length ps ≤ at = behind.0 in absurd (omega (arith, below, size, short))
      ]

  -- what is taken is the package at the place
  is_there : (was : Option UnresolvedPackage) → slice_get slots at ≡ Some was → was ≡ Some here.0
  is_there was e = same_Some was (Some here.0) (sym e ∙ t.left at here.0 here.1 (once n needs order k o within))

  pub is_some : (was : Option UnresolvedPackage) → slice_get slots at ≡ Some was → was ≡ None → ⊥
  is_some was e none = let differ : None ≡ Some here.0 = sym none ∙ is_there was e in absurd cc

  pub is_taken : (was : Option UnresolvedPackage) (q : UnresolvedPackage) (slots2 : List (Option UnresolvedPackage)) (sorted2 : List UnresolvedPackage)
      → slice_get slots at ≡ Some was → was ≡ Some q → slots2 ≡ set slots at None → sorted2 ≡ sorted ++ q ∷ [] → AreTaken ps order (k + 1) slots2 sorted2
  is_taken was q slots2 sorted2 e is cut grown =
      let same : here.0 ≡ q = same_Some here.0 q (sym (is_there was e) ∙ is) in
      let more : take (k + 1) order ≡ take k order ++ at ∷ [] = take_more order k 0 within in
      record {
        size = ap length cut ∙ length-set slots at None ∙ t.size;
        taken = subst (AreAt ps (take (k + 1) order)) (sym grown) (at_more ps order k sorted q within t.taken (here.1 ∙ ap Some same));
        left = λ j p there new.
            let other : j ≡ at → ⊥ = (λ f. new (subst (Has (take (k + 1) order)) (sym f) (subst (λ (xs : List ℕ). Has xs at) (sym more) (has_last (take k order) at)))) in
            let before : Has (take k order) j → ⊥ = (λ h. new (subst (λ (xs : List ℕ). Has xs j) (sym more) (has_was (take k order) (at ∷ []) j h))) in
            ap (λ (xs : List (Option UnresolvedPackage)). slice_get xs j) cut ∙ set_other slots at j None other ∙ t.left j p there before;
      }

pub all_taken : (ps : List UnresolvedPackage) (order : List ℕ) (k : ℕ) (slots : List (Option UnresolvedPackage)) (sorted : List UnresolvedPackage) → length order ≤ k → AreTaken ps order k slots sorted → AreAt ps order sorted
all_taken ps order k slots sorted end t = subst (λ (os : List ℕ). AreAt ps os sorted) (take_all k order end) t.taken

pub none_taken : (ps : List UnresolvedPackage) (order : List ℕ) (slots : List (Option UnresolvedPackage)) (sorted : List UnresolvedPackage) → slots ≡ map (λ (p : UnresolvedPackage). Some p) ps → sorted ≡ [] → AreTaken ps order 0 slots sorted
none_taken ps order slots sorted are empty = record {
  size = ap length are ∙ length-map ps (λ (p : UnresolvedPackage). Some p);
  taken = subst (λ (qs : List UnresolvedPackage). AreAt ps [] qs) (sym empty) refl;
  left = λ j p there new. ap (λ (xs : List (Option UnresolvedPackage)). slice_get xs j) are ∙ slice_get-map (λ (q : UnresolvedPackage). Some q) ps j ∙ ap (option_map (λ (q : UnresolvedPackage). Some q)) there;
}
