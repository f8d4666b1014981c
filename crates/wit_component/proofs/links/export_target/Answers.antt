use Rattle.std.proofs.Common.{◌<◌, length, arith}
use Rattle.wasm_types.specs.Entries.{export_value}
use Rattle.wasm_format.specs.Module.{module_value}
use Rattle.wit_component.specs.Linking.{core_export}
use Rattle.wit_component.specs.Places.{ExportPlace}
use Rattle.wit_component.specs.View as view
use Rattle.plain_worlds.specs.World.{function_item}
use Rattle.link_lines.proofs.Sorted.{length_once}
use Rattle.wit_component.proofs.LinkLines.{placed_there, export_place_there, target_read, length_twice}
use Rattle.wit_component.proofs.links.export_target.Goals as goal

pub index-requires : goal.index-requires
index-requires c =
    let l = view.linking c.args.linking.now in
    let there : c.args.index < length l.world.exports = omega (arith, c.requires.there, length_once function_item c.args.linking.now.world.now.exports.items) in
    omega (arith, placed_there (ExportPlace l) l.world.exports c.args.table.now.exports.items c.args.index c.requires.places.exports there, c.args.table.now.exports.ok)

pub index-requires-2 : goal.index-requires-2
index-requires-2 c =
    let l = view.linking c.args.linking.now in
    let there : c.args.index < length l.world.exports = omega (arith, c.requires.there, length_once function_item c.args.linking.now.world.now.exports.items) in
    omega (arith, export_place_there l (view.places c.args.table.now) c.requires.places c.args.index c.index.result.now there c.index.ensures, length_twice (core_export (module_value c.args.linking.now.main)) export_value c.args.linking.now.main.exports.items, c.args.linking.now.main.exports.ok)

pub returns : goal.returns
returns c =
    let l = view.linking c.args.linking.now in
    let there : c.args.index < length l.world.exports = omega (arith, c.requires.there, length_once function_item c.args.linking.now.world.now.exports.items) in
    target_read c.args.linking.now.main.exports.items c.args.table.now.exports.items c.args.index c.index.result.now c.index-2.result.now
    (placed_there (ExportPlace l) l.world.exports c.args.table.now.exports.items c.args.index c.requires.places.exports there) c.index.ensures
    (omega (arith, export_place_there l (view.places c.args.table.now) c.requires.places c.args.index c.index.result.now there c.index.ensures, length_twice (core_export (module_value c.args.linking.now.main)) export_value c.args.linking.now.main.exports.items)) c.index-2.ensures
