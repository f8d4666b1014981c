-- Functions that are imported are lowered to the core types that core imports have.
use Rattle.std.proofs.Common.{◌≡◌, ℕ, List, [], ◌∷◌, length, true, Option, Some, refl, sym, ap, subst, ◌∙◌, arith, eq-eqb}
use Rattle.std.proofs.lemmas.List.{length-map}
use Rattle.std.proofs.lemmas.Option.{slice_get_within}
use Rattle.std.specs.Prelude.{slice_get, ◌&&◌}
use Rattle.wasm_types.specs.declared.types.ValType.{ValType}
use Rattle.wasm_types.specs.Entries.{ImportValue}
use Rattle.wasm_types.specs.Types.{FuncTypeValue}
use Rattle.wasm_format.specs.Module.{imported_type}
use Rattle.wit_types.specs.declared.mangling.AbiVariant.TheVariants.{GuestImport}
use Rattle.wit_reach.specs.Types.{AreTypesBackward}
use Rattle.type_writing.specs.Writing.{written}
use Rattle.linked_imports.specs.Passed.type_sinks-Root.{InterfaceNames, root_label}
use Rattle.flat_trees.specs.Flat.{signature, core_type as flat_type}
use Rattle.flat_trees.specs.Law.{UnfoldedFunctionsAreFlat, WrittenTreesKeepCoreTypes}
use Rattle.linked_imports.specs.Passed.component_meaning-Core.{of_function, value_code, same_values, same_function_type, matches, CoreImport, of_lower, CoreItem}
use Rattle.linked_imports.specs.Passed.component_meaning-Spaces.{Spaces, lowering}
use Rattle.linked_imports.specs.Passed.link_table-Linking.{Linking, types_of}
use Rattle.linked_imports.specs.Passed.link_table-Pairwise.{Pairwise}
use Rattle.linked_imports.specs.Passed.link_table-Table.{ImportEntry, IsImportEntry, Table, IsTable}
use Rattle.linked_imports.specs.Passed.right_components-Main.{core_type, core_import, main_of, kind_of}
use Rattle.linked_imports.specs.Imports.{IsLowered}
use Rattle.component_encoding.specs.Instances.{lowered, AreLowerable}
use Rattle.component_encoding.proofs.Lists.{get_there, get_map, each_at}

-- ---- equal core types match

same_all : (vs : List ValType) → same_values vs vs ≡ true
same_all [] = refl
same_all (v ∷ vs) = (λ i. eq-eqb (value_code v) (value_code v) refl i && same_all vs i)

same_type : (t : FuncTypeValue) → same_function_type t t ≡ true
same_type t = (λ i. same_all t.params i && same_all t.results i)

-- ---- the core type of a lowering

module _ (flat : UnfoldedFunctionsAreFlat) (keep : WrittenTreesKeepCoreTypes) (l : Linking) (names : InterfaceNames) (bytes : List ℕ) (s : Spaces) (backward : AreTypesBackward (types_of l)) where
  lowered_one : (e : ImportEntry) (f : ℕ) (i : ImportValue) → e.import ≡ i → IsImportEntry l e → IsLowered l names s.scope e f → (c : CoreItem) × (lowered s f ≡ Some c) × (matches (core_import l.main i).ty c.ty ≡ true)
  lowered_one e f i same entry low =
      let sign = signature GuestImport (written (root_label names) low.tree) in
      let item : CoreItem = record { origin = of_lower f []; ty = of_function (flat_type sign) } in
      let typed = entry.typed in
      let known = flat.signatures (types_of l) GuestImport e.function.params.items e.function.result in
      let one : sign ≡ signature GuestImport typed.1.tree = (keep (root_label names) GuestImport low.tree).0 ∙ sym (known low.tree backward low.unfolds) ∙ known typed.1.tree backward typed.1.unfolds in
      let is_type : typed.0 ≡ flat_type sign = typed.1.is ∙ ap flat_type (sym one) in
      let found : imported_type l.main i.ty ≡ Some (flat_type sign) = ap (λ (x : ImportValue). imported_type l.main x.ty) (sym same) ∙ typed.2 ∙ ap (λ t. Some t) is_type in (
        item,
        ap (lowering f []) low.is,
        ap (λ t. matches (core_type t (kind_of i.ty)) (of_function (flat_type sign))) found ∙ same_type (flat_type sign),
      )

  pub are_lowerable : (t : Table) (fs : List ℕ) → IsTable l t → Pairwise (IsLowered l names s.scope) t.imports fs → AreLowerable (main_of bytes l.main) s fs
  are_lowerable t fs table low = record {
    so_many = low.so_many ∙ sym (length-map t.imports (λ (e : ImportEntry). e.import)) ∙ ap length table.imports ∙ sym (length-map l.main.imports (core_import l.main));
    each = λ k i f at of. (
        let size = low.so_many in
        let below = slice_get_within fs k f of in
        let there = get_there t.imports k (omega (arith, size, below)) in
        let import = get_map (λ (e : ImportEntry). e.import) t.imports k there.0 there.1 in
        let is_import : slice_get l.main.imports k ≡ Some there.0.import = ap (λ xs. slice_get xs k) (sym table.imports) ∙ import in
        let both : Some (core_import l.main there.0.import) ≡ Some i = sym (get_map (core_import l.main) l.main.imports k there.0.import is_import) ∙ at in
        let same : core_import l.main there.0.import ≡ i = cc in
        let one = lowered_one there.0 f there.0.import refl (each_at (IsImportEntry l) t.imports k there.0 table.imports_are there.1) (low.each k there.0 f there.1 of) in
        subst (λ (x : CoreImport). (c : CoreItem) × (lowered s f ≡ Some c) × (matches x.ty c.ty ≡ true)) same one
        );
  }
