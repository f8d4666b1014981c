-- The whole component, by what each of its steps adds.
use Rattle.std.proofs.Common.{◌≡◌, ◌<◌, ℕ, zero, suc, List, [], ◌∷◌, length, map, Option, Some, refl, sym, ap, subst, ◌∙◌, arith}
use Rattle.std.specs.Prelude.{slice_get}
use Rattle.std.specs.List.{AllByRecursion as Each}
use Rattle.wasm_types.specs.declared.entries.Export.{Export}
use Rattle.wasm_types.specs.Entries.{export_value}
use Rattle.wit_reach.specs.Types.{AreTypesBackward}
use Rattle.wit_types.specs.declared.function.Function.{Function}
use Rattle.component_entries.specs.Entries.{EntryValue, DefinedValue}
use Rattle.distinct_names.specs.Names.{all_new}
use Rattle.component_sections.specs.Component.{DefinitionValue}
use Rattle.type_writing.specs.Passed.type_meaning-Items.{type_at, is_function}
use Rattle.type_writing.specs.Passed.type_meaning-Scope.{Scope, meaning as scope_meaning}
use Rattle.type_writing.specs.Writing.{Begins, written}
use Rattle.linked_imports.specs.Passed.type_sinks-Imports.{entry_names}
use Rattle.linked_imports.specs.Passed.type_sinks-Placing.{ArePlaced as EntriesArePlaced}
use Rattle.linked_imports.specs.Passed.type_sinks-Root.{InterfaceNames, root_label}
use Rattle.linked_imports.proofs.Passed.type_sinks-Placed.{known}
use Rattle.flat_trees.specs.Law.{UnfoldedFunctionsAreFlat, WrittenTreesKeepCoreTypes}
use Rattle.linked_imports.specs.Passed.component_meaning-Core.{MainModule}
use Rattle.linked_imports.specs.Passed.component_meaning-Spaces.{Spaces, meaning}
use Rattle.linked_imports.specs.Passed.link_table-Linking.{Linking, types_of, exported_functions}
use Rattle.linked_imports.specs.Passed.link_table-Pairwise.{Pairwise}
use Rattle.linked_imports.specs.Passed.link_table-Table.{ExportEntry, Table, IsTable}
use Rattle.linked_imports.specs.Passed.link_table-View.{name_at, AreLinksOfEntries}
use Rattle.linked_imports.specs.Passed.link_table-declared-exports-ExportLink.{ExportLink}
use Rattle.linked_imports.specs.Passed.right_components-Main.{main_of}
use Rattle.linked_imports.specs.Passed.right_components-Outside.{AreInterfaceNames}
use Rattle.linked_imports.specs.Passed.right_components-Right.{IsRightFor}
use Rattle.linked_imports.specs.Imports.{IsTypeAt, AreImportsWritten, AreImportsListed}
use Rattle.component_encoding.specs.Growing.{IsMainInstance}
use Rattle.component_encoding.specs.Instances.{AreLowerable, IsInstantiated}
use Rattle.component_encoding.specs.Exports.{IsEntryOffered, AreTypes, AreExported}
use Rattle.component_encoding.specs.Component.{ArePlacedBehind}
use Rattle.linked_imports.specs.Passed.component_imports-Functions.{function_names}
use Rattle.component_encoding.specs.Placing.{ArePlaced, names_exported, StayPlaced, StayPlacedWithAll}
use Rattle.linked_imports.specs.Passed.type_sinks-Placing.{as_definitions}
use Rattle.component_encoding.proofs.Entries.{entry_scope, are_of_entries}
use Rattle.component_encoding.proofs.Growth.{grows}
use Rattle.component_encoding.proofs.Lowerable.{are_lowerable}
use Rattle.component_encoding.proofs.Offered.{entries_offered}
use Rattle.std.proofs.lemmas.Option.{slice_get_within}
use Rattle.linked_imports.proofs.Passed.link_table-Pairwise.{placed}
use Rattle.component_encoding.proofs.Lists.{get_there, each_of}
use Rattle.component_encoding.proofs.Right.{is_right}

-- indices of types of functions, still where others follow
are_types : (l : Linking) (names : InterfaceNames) (scope : Scope) (s : Spaces) (fs : List Function) (lifts : List ℕ) → Pairwise (IsTypeAt l names scope) fs lifts → s.scope ≡ scope → AreTypes s lifts
are_types l names scope s fs lifts are same = each_of _ lifts (λ ty has.
    let place = placed lifts ty has in
    let below = slice_get_within lifts place.0 ty place.1 in
    let size = are.so_many in
    let f = get_there fs place.0 (omega (arith, size, below)) in
    let stands = are.each place.0 f.0 ty f.1 place.1 in
    (written (root_label names) stands.0, ap (λ (z : Scope). type_at is_function z.types ty) same ∙ stands.2))

-- entries that export nothing
none_exported : (es : List EntryValue) → EntriesArePlaced es → (scope_meaning es).exports ≡ [] → names_exported (as_definitions es) ≡ []
none_exported es placed none = ap (λ (k : DefinedValue). k.exports) (known es placed) ∙ ap entry_names none

pub whole : (flat : UnfoldedFunctionsAreFlat) (keep : WrittenTreesKeepCoreTypes) (l : Linking) (names : InterfaceNames) (bytes : List ℕ) (t : Table) (es : List EntryValue) (first second last : List DefinitionValue) (lowers lifts : List ℕ) (instance : ℕ)
    → IsTable l t → AreTypesBackward (types_of l) → AreInterfaceNames l.names l.main.imports names → AreImportsWritten l t names (scope_meaning es) lowers lifts → first ≡ as_definitions es → Begins second last
    → (AreLowerable (main_of bytes l.main) (meaning (main_of bytes l.main) first) lowers → IsInstantiated (main_of bytes l.main) (meaning (main_of bytes l.main) first) (meaning (main_of bytes l.main) second) lowers instance)
    → (Each (IsEntryOffered l (main_of bytes l.main)) t.exports → IsMainInstance (main_of bytes l.main) (meaning (main_of bytes l.main) second) instance → AreTypes (meaning (main_of bytes l.main) second) lifts
    → AreExported l (meaning (main_of bytes l.main) second) (meaning (main_of bytes l.main) last) t.exports lifts × StayPlacedWithAll second last (exported_functions l.names.world))
    → (AreLowerable (main_of bytes l.main) (meaning (main_of bytes l.main) first) lowers → StayPlaced first second)
    → (AreImportsListed l names (scope_meaning es) → IsRightFor l bytes t (meaning (main_of bytes l.main) last)) × ArePlacedBehind es (exported_functions l.names.world) last
whole flat keep l names bytes t es first second last lowers lifts instance table backward named written added begins instantiate exporting stay =
    let main = main_of bytes l.main in
    let start = meaning main first in
    let scope : start.scope ≡ scope_meaning es = ap (λ ds. (meaning main ds).scope) added ∙ entry_scope main es in
    let is_written : AreImportsWritten l t names start.scope lowers lifts = subst (λ s. AreImportsWritten l t names s lowers lifts) (sym scope) written in
    let low = are_lowerable flat keep l names bytes start backward t lowers table is_written.lowered_are in
    let made = instantiate low in
    let of_main : IsMainInstance main (meaning main second) instance = record { instance = _; there = made.there; has = refl } in
    let exported = exporting (entries_offered l bytes t.exports table.exports_are) of_main (are_types l names start.scope (meaning main second) (exported_functions l.names.world) lifts is_written.lifted_are made.scope) in
    let entries = are_of_entries main es in (
      λ listed. is_right l names bytes t start (meaning main second) (meaning main last) lowers lifts instance (record {
        table = table;
        written = is_written;
        listed = subst (AreImportsListed l names) (sym scope) listed;
        modules = ap (λ ds. (meaning main ds).modules) added ∙ entries.modules;
        instances = ap (λ ds. (meaning main ds).core_instances) added ∙ entries.instances;
        instantiated = made;
        exported = exported.0;
        grows = grows main second last begins;
      }) named,
      λ placed differ. exported.1 (ap (λ ns. all_new ns (function_names (exported_functions l.names.world))) ((stay low).names ∙ ap names_exported added ∙ none_exported es placed written.exports) ∙ differ) ((stay low).placed (subst ArePlaced (sym added) placed)),
    )

-- links are of core exports that are there
pub places_there : (exports : List Export) (entries : List ExportEntry) (links : List ExportLink) → AreLinksOfEntries (map export_value exports) entries links → (k : ℕ) (x : ExportLink) → slice_get links k ≡ Some x → x.«export» < length exports
places_there exports entries links are k x at =
    let below = slice_get_within links k x at in
    let size = are.so_many in
    let e = get_there entries k (omega (arith, size, below)) in
    let named = (are.each k e.0 x e.1 at).name in
    name_below exports x.«export» e.0.name named
  where
    name_below : (es : List Export) (k : ℕ) (n : List ℕ) → name_at (map export_value es) k ≡ Some n → k < length es
    name_below [] k n h = absurd cc
    name_below (e ∷ es) zero n h = omega arith
    name_below (e ∷ es) (suc k) n h = (let less = name_below es k n h in omega (arith, less))

-- what is exported, of these types and functions
pub exported_of : (l : Linking) (main : MainModule) (second last : List DefinitionValue) (es : List ExportEntry) (fs : List Function) (types lifts : List ℕ) → types ≡ lifts → fs ≡ exported_functions l.names.world
    → AreExported l (meaning main second) (meaning main last) es types × StayPlacedWithAll second last fs → AreExported l (meaning main second) (meaning main last) es lifts × StayPlacedWithAll second last (exported_functions l.names.world)
exported_of l main second last es fs types lifts same functions h = (subst (AreExported l (meaning main second) (meaning main last) es) same h.0, subst (StayPlacedWithAll second last) functions h.1)
