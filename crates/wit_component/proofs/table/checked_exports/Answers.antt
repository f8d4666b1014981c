use Rattle.std.proofs.Common.{List, map, sym, ap, subst, ◌∙◌}
use Rattle.std.specs.Prelude.{◌||◌}
use Rattle.wit_component.proofs.Lists.{list_any_map}
use Rattle.wasm_types.specs.declared.entries.Export.{Export}
use Rattle.wasm_types.specs.Entries.{ExportValue, import_value, export_value}
use Rattle.wasm_format.specs.Module.{module_value}
use Rattle.wit_component.specs.Candidates.{candidates, Notes}
use Rattle.wit_component.specs.CoreNames.{is_outer_memory}
use Rattle.wit_component.specs.Linking.{CoreImport, CoreExport, core_import, core_export}
use Rattle.wit_component.specs.View as view
use Rattle.wit_component.proofs.PlacesCauses.{still_offers, still_is, still_is_not}
use Rattle.wit_component.proofs.Results.{ok_map}
use Rattle.wit_component.proofs.PlacesLists.{notes_map}
use Rattle.wit_component.proofs.table.checked_exports.Goals as goal

pub returns-then-branch-clause-cause : goal.returns-then-branch-clause-cause
returns-then-branch-clause-cause c =
    let l = view.linking c.args.linking.now in
    let m = module_value c.args.linking.now.main in
    let look = candidates c.in_ok-texts.texts in
    let own = subst (λ (es : List Export). Notes (λ (e : ExportValue). e.name) (map export_value es) look) c.deref.ensures.value c.in_ok-texts.ensures in
    let notes = notes_map (core_export m) (λ (e : CoreExport). e.name) (map export_value c.args.linking.now.main.exports.items) look own in
    let imports = list_any_map (λ (i : CoreImport). is_outer_memory i.place i.name) (core_import m) (map import_value c.args.linking.now.main.imports.items) in
    still_is l look notes (ap (λ b. b || still_offers l look) imports ∙ sym c.in_ok-is_still_to_come.ensures ∙ c.if-branch.true)

pub returns-clause-plain : goal.returns-clause-plain
returns-clause-plain c =
    let l = view.linking c.args.linking.now in
    let m = module_value c.args.linking.now.main in
    let look = candidates c.in_ok-texts.texts in
    let own = subst (λ (es : List Export). Notes (λ (e : ExportValue). e.name) (map export_value es) look) c.deref.ensures.value c.in_ok-texts.ensures in
    let notes = notes_map (core_export m) (λ (e : CoreExport). e.name) (map export_value c.args.linking.now.main.exports.items) look own in
    let imports = list_any_map (λ (i : CoreImport). is_outer_memory i.place i.name) (core_import m) (map import_value c.args.linking.now.main.imports.items) in
    ok_map c.export_places.result (λ v p. still_is_not l look notes (ap (λ b. b || still_offers l look) imports ∙ sym c.in_ok-is_still_to_come.ensures ∙ c.if-branch.false)) c.export_places.ensures.places
