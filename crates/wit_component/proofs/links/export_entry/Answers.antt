use Rattle.wasm_types.specs.Entries.{export_value}
use Rattle.wasm_format.specs.Module.{module_value}
use Rattle.wit_component.specs.Linking.{core_export}
use Rattle.wit_component.specs.View as view
use Rattle.plain_worlds.specs.World.{function_item}
use Rattle.wit_component.proofs.LinkLines.{get_once, target_twice, export_entry_read}
use Rattle.wit_component.proofs.links.export_entry.Goals as goal

pub returns : goal.returns
returns c =
    let l = view.linking c.args.linking.now in
    let t = view.places c.args.table.now in
    let f = function_item c.index-function.result.now in
    let e = core_export (module_value c.args.linking.now.main) (export_value c.export_target-export.result.now) in
    let is = get_once function_item c.args.linking.now.world.now.exports.items c.args.index c.index-function.result.now c.requires.there c.index-function.ensures in
    rw c.as_str.ensures.value (f, is, export_entry_read l t c.requires.places c.args.index f e is (target_twice (core_export (module_value c.args.linking.now.main)) export_value c.args.linking.now.main.exports.items t.exports c.args.index c.export_target-export.result.now c.export_target-export.ensures))
