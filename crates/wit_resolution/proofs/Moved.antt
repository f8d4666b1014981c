-- Packages of groups whose texts come behind others are well formed.
use Rattle.std.proofs.Common.{ℕ, ◌<◌, ◌⊎◌, inl, inr, List, [], ◌∷◌, ◌++◌, length, map, refl, sym, subst, arith}
use Rattle.wit_words.specs.Sources.{SourceText, total}
use Rattle.wit_order.specs.Order.{Has}
use Rattle.wit_types.specs.declared.«package».UnresolvedPackage.{UnresolvedPackage}
use Rattle.wit_well_formed.specs.Passed.wit_graph_parts-Own.{IsWellFormed}
use Rattle.wit_offsets.specs.Offsets.{package_at}
use Rattle.wit_well_formed.specs.Passed.wit_package-declared-group-UnresolvedPackageGroup.{UnresolvedPackageGroup}
use Rattle.wit_well_formed.specs.Law.{MovedPackagesAreWellFormed}
use Rattle.wit_resolution.specs.Groups.{packages_of, packages_behind}

all_well_formed : MovedPackagesAreWellFormed → (n : ℕ) (ps : List UnresolvedPackage) → ((p : UnresolvedPackage) → Has ps p → IsWellFormed p) → (p : UnresolvedPackage) → Has (map (package_at n) ps) p → IsWellFormed p
all_well_formed law n [] whole p has = absurd has
all_well_formed law n (q ∷ qs) whole p has = elim has as (λ _. IsWellFormed p) [
  | inl here ↦ subst (λ (x : UnresolvedPackage). IsWellFormed x) (sym here) (law q n (whole q (inl refl)))
  | inr later ↦ all_well_formed law n qs (λ x h. whole x (inr h)) p later
]

either : (xs ys : List UnresolvedPackage) (p : UnresolvedPackage) → Has (xs ++ ys) p → Has xs p ⊎ Has ys p
either [] ys p has = inr has
either (x ∷ xs) ys p has = elim has as (λ _. Has (x ∷ xs) p ⊎ Has ys p) [
  | inl here ↦ inl (inl here)
  | inr later ↦ elim (either xs ys p later) as (λ _. Has (x ∷ xs) p ⊎ Has ys p) [
    | inl first ↦ inl (inr first)
    | inr second ↦ inr second
  ]
]

pub behind_well_formed : MovedPackagesAreWellFormed → (texts : List SourceText) (gs : List UnresolvedPackageGroup)
    → ((g : UnresolvedPackageGroup) → Has gs g → (p : UnresolvedPackage) → Has (packages_of g) p → IsWellFormed p) → (p : UnresolvedPackage) → Has (packages_behind texts gs) p → IsWellFormed p
behind_well_formed law texts [] whole p has = absurd has
behind_well_formed law texts (g ∷ gs) whole p has = elim (either (map (package_at (total texts)) (packages_of g)) (packages_behind (texts ++ g.source_map) gs) p has) as (λ _. IsWellFormed p) [
  | inl here ↦ all_well_formed law (total texts) (packages_of g) (whole g (inl refl)) p here
  | inr later ↦ behind_well_formed law (texts ++ g.source_map) gs (λ x h. whole x (inr h)) p later
]

pub some_behind : (texts : List SourceText) (gs : List UnresolvedPackageGroup) → 0 < length gs → 0 < length (packages_behind texts gs)
some_behind texts [] h = absurd (omega arith)
some_behind texts (g ∷ gs) h = omega arith
