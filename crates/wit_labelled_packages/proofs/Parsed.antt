-- Names of packages of texts are read back.
use Rattle.std.proofs.Common.{◌≡◌, ℕ, suc, List, [], ◌∷◌, inl, inr, length, Option, Some, refl, sym, subst, ap, ◌∙◌, arith}
use Rattle.std.specs.Prelude.{slice_get}
use Rattle.semver.proofs.Grammar.{version_parts-sound}
use Rattle.semver.specs.Identifiers.{parts_of}
use Rattle.semver.specs.Parse.{version_parts}
use Rattle.semver.specs.declared.Version.{Version}
use Rattle.wit_words.specs.Slice.{Slice}
use Rattle.wit_words.specs.Sources.{SourceText}
use Rattle.wit_order.specs.Order.{Has}
use Rattle.wit_syntax.specs.Ast.{FileTree}
use Rattle.wit_nested.specs.Nested.{own_files, nested_files}
use Rattle.wit_types.specs.declared.«package».UnresolvedPackage.{UnresolvedPackage}
use Rattle.wit_package_types.specs.Stability.{IsVersionWhere, no_version, a_version}
use Rattle.wit_well_formed.specs.Passed.wit_package-Group.{AreParsed}
use Rattle.wit_well_formed.specs.Passed.wit_package-Steps.{Resolves}
use Rattle.wit_well_formed.specs.Marks.{ParsedPackagesHavePlainNames}
use Rattle.wit_new_names.specs.Names.{ReadsBack}
use Rattle.wit_labelled_packages.specs.Names.{ParsedNamesReadBack}

-- a version that is read is read back from its own text, which is that of which it was read
where_read : (v : Option Slice) (w : Option Version) → IsVersionWhere v w → ReadsBack w
where_read v w no_version = tt
where_read v w (a_version x y is) = ap version_parts (version_parts-sound x.text (parts_of y) is).0 ∙ is

resolved : (files : List FileTree) (p : UnresolvedPackage) → Resolves files p → ReadsBack p.name.version
resolved files p r = where_read r.resolved.me.version p.name.version r.resolved.name.version

module _ (P : UnresolvedPackage → Type 0) (of_files : (files : List FileTree) (p : UnresolvedPackage) → Resolves files p → P p) where
  each_resolved : (files : List FileTree) (ps : List UnresolvedPackage) → length ps ≡ length files
      → ((k : ℕ) (f : FileTree) (p : UnresolvedPackage) → slice_get files k ≡ Some f → slice_get ps k ≡ Some p → Resolves (f ∷ []) p)
      → (p : UnresolvedPackage) → Has ps p → P p
  each_resolved files [] so_many each p has = absurd has
  each_resolved [] (q ∷ ps) so_many each p has = absurd (omega (arith, so_many))
  each_resolved (f ∷ files) (q ∷ ps) so_many each p has = elim has as (λ _. P p) [
    | inl here ↦ of_files (f ∷ []) p (each 0 f p refl (ap (λ (x : UnresolvedPackage). Some x) (sym here)))
    | inr later ↦ each_resolved files ps (omega (arith, so_many)) (λ k g r. each (suc k) g r) p later
  ]

  -- what is so of each package that files are resolved to is so of each of texts
  pub each_parsed : (texts : List SourceText) (main : UnresolvedPackage) (nested : List UnresolvedPackage) → AreParsed texts main nested → (p : UnresolvedPackage) → Has (main ∷ nested) p → P p
  each_parsed texts main nested are p has = elim has as (λ _. P p) [
    | inl here ↦ subst P (sym here) (of_files (own_files are.files) main are.resolved.main_is)
    | inr later ↦ each_resolved (nested_files are.files) nested are.resolved.nested_are.so_many are.resolved.nested_are.each p later
  ]

pub parsed_read_back : ParsedPackagesHavePlainNames → ParsedNamesReadBack
parsed_read_back plain texts main nested are p has =
    let marks = plain texts main nested are p has in
    record { namespace = marks.namespace; name = marks.name; version = each_parsed (λ (q : UnresolvedPackage). ReadsBack q.name.version) resolved texts main nested are p has }
