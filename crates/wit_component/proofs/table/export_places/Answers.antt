use Rattle.std.proofs.Common.{map, ap, ◌∙◌}
use Rattle.std.specs.Prelude.{string_bytes}
use Rattle.wasm_types.specs.Entries.{export_value}
use Rattle.wasm_format.specs.Module.{module_value}
use Rattle.wit_component.specs.Candidates.{candidates, named_by}
use Rattle.wit_component.specs.Linking.{CoreExport, core_export}
use Rattle.wit_component.specs.Places.{ExportPlace}
use Rattle.wit_component.specs.View as view
use Rattle.plain_worlds.specs.World.{function_item}
use Rattle.wit_component.proofs.PlacesLists.{notes_map, placed_more}
use Rattle.wit_component.proofs.PlacesNames.{named_stands}
use Rattle.wit_component.proofs.table.export_places.Goals as goal

pub export_place-requires : goal.export_place-requires
export_place-requires c =
    let l = view.linking c.args.linking.now in
    let look = candidates c.args.texts.now in
    let notes = notes_map (core_export (module_value c.args.linking.now.main)) (λ (e : CoreExport). e.name) (map export_value c.args.linking.now.main.exports.items) look c.requires in
    named_stands (λ (e : CoreExport). e.name) l.main.exports look notes l.rejects_legacy (string_bytes c.function-item.result.name) c.in_ok-found.found
    (c.in_ok-found.ensures ∙ ap (named_by l.rejects_legacy look) c.deref.ensures)

pub loop-function-preserved : goal.loop-function-preserved
loop-function-preserved c =
    let l = view.linking c.args.linking.now in
    placed_more function_item (ExportPlace l) c.deref-function-items.result.now c.args.linking.now.world.now.exports.items c.loop-function.function-index c.function-item.result
    c.loop-function.places.items c.push.new.self.items c.in_ok-export_place.field-0 c.deref-function-items.ensures.value c.loop-function-test.true c.function-item.is
    c.loop-function.invariant c.in_ok-export_place.ensures.place (c.in_ok-push.ensures.items)
