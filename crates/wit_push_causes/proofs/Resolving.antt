-- Packages that are resolved ask for each interface and each world of others under one name.
use Rattle.std.proofs.Common.{◌≡◌, ℕ, suc, List, [], ◌∷◌, inl, inr, Some, refl, sym, ap, subst, arith, length}
use Rattle.std.specs.Prelude.{slice_get}
use Rattle.wit_order.specs.Order as order
use Rattle.wit_types.specs.declared.«package».UnresolvedPackage.{UnresolvedPackage}
use Rattle.wit_syntax.specs.Ast.{FileTree}
use Rattle.wit_nested.specs.Nested.{own_files, nested_files}
use Rattle.wit_package.specs.TopUses.{files_need}
use Rattle.wit_package.specs.Steps.{Resolves}
use Rattle.wit_push_causes.specs.Asked.{package_entries, AsksForOne}
use Rattle.wit_push_causes.specs.Resolved.{ResolvedPackagesAskForOne, ParsedPackagesAskForOne}
use Rattle.wit_push_causes.proofs.Asking.{deps_for_one}

pub resolved_for_one : ResolvedPackagesAskForOne
resolved_for_one files p r = (let s = r.resolved in deps_for_one (files_need s.me files) s.items (package_entries p.foreign_deps.entries) p.foreign_dep_spans.items s.items_are s.deps_are)

each_for_one : (files : List FileTree) (ps : List UnresolvedPackage) → length ps ≡ length files
    → ((k : ℕ) (f : FileTree) (p : UnresolvedPackage) → slice_get files k ≡ Some f → slice_get ps k ≡ Some p → Resolves (f ∷ []) p)
    → (p : UnresolvedPackage) → order.Has ps p → AsksForOne p
each_for_one files [] so_many each p has = absurd has
each_for_one [] (q ∷ ps) so_many each p has = absurd (omega (arith, so_many))
each_for_one (f ∷ files) (q ∷ ps) so_many each p (inl here) = resolved_for_one (f ∷ []) p (each 0 f p refl (ap (λ (z : UnresolvedPackage). Some z) (sym here)))
each_for_one (f ∷ files) (q ∷ ps) so_many each p (inr later) = each_for_one files ps (omega (arith, so_many)) (λ k g r. each (suc k) g r) p later

pub parsed_for_one : ParsedPackagesAskForOne
parsed_for_one texts main nested are p (inl here) = subst AsksForOne (sym here) (resolved_for_one (own_files are.files) main are.resolved.main_is)
parsed_for_one texts main nested are p (inr later) = each_for_one (nested_files are.files) nested are.resolved.nested_are.so_many are.resolved.nested_are.each p later
