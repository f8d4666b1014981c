-- Packages of texts.
use Rattle.std.proofs.Common.{◌≡◌, ℕ, suc, List, [], ◌∷◌, inl, inr, length, Some, refl, sym, subst, ap, arith}
use Rattle.std.specs.Prelude.{slice_get}
use Rattle.wit_order.specs.Order.{Has}
use Rattle.wit_package.specs.Passed.wit_syntax-Ast.{FileTree}
use Rattle.wit_package.specs.Passed.wit_nested-Nested.{own_files, nested_files}
use Rattle.wit_types.specs.declared.«package».UnresolvedPackage.{UnresolvedPackage}
use Rattle.wit_graph_parts.specs.Own.{IsWellFormed}
use Rattle.wit_package.specs.Steps.{Resolves}
use Rattle.wit_well_formed.specs.Law.{ParsedPackagesAreWellFormed}
use Rattle.wit_well_formed.proofs.Whole.{well_formed}

-- each that is resolved by itself
each_well_formed : (files : List FileTree) (ps : List UnresolvedPackage) → length ps ≡ length files
    → ((k : ℕ) (f : FileTree) (p : UnresolvedPackage) → slice_get files k ≡ Some f → slice_get ps k ≡ Some p → Resolves (f ∷ []) p)
    → (p : UnresolvedPackage) → Has ps p → IsWellFormed p
each_well_formed files [] so_many each p has = absurd has
each_well_formed [] (q ∷ ps) so_many each p has = absurd (omega (arith, so_many))
each_well_formed (f ∷ files) (q ∷ ps) so_many each p has = elim has as (λ _. IsWellFormed p) [
  | inl here ↦ well_formed (f ∷ []) p (each 0 f p refl (ap Some (sym here)))
  | inr later ↦ each_well_formed files ps (omega (arith, so_many)) (λ k g r. each (suc k) g r) p later
]

pub parsed : ParsedPackagesAreWellFormed
parsed texts main nested are p has = elim has as (λ _. IsWellFormed p) [
  | inl here ↦ subst IsWellFormed (sym here) (well_formed (own_files are.files) main are.resolved.main_is)
  | inr later ↦ each_well_formed (nested_files are.files) nested are.resolved.nested_are.so_many are.resolved.nested_are.each p later
]
