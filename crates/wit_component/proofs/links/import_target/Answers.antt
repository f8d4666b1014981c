use Rattle.std.proofs.Common.{◌<◌, length, arith}
use Rattle.wasm_types.specs.Entries.{import_value}
use Rattle.wasm_format.specs.Module.{module_value}
use Rattle.wit_component.specs.Linking.{core_import}
use Rattle.wit_component.specs.Places.{ImportPlace}
use Rattle.wit_component.specs.View as view
use Rattle.plain_worlds.specs.World.{function_item}
use Rattle.link_lines.proofs.Sorted.{length_once}
use Rattle.wit_component.proofs.LinkLines.{placed_there, import_place_there, target_read, length_twice}
use Rattle.wit_component.proofs.links.import_target.Goals as goal

pub index-requires : goal.index-requires
index-requires c =
    let l = view.linking c.args.linking.now in
    let there : c.args.index < length l.main.imports = omega (arith, c.requires.there, length_twice (core_import (module_value c.args.linking.now.main)) import_value c.args.linking.now.main.imports.items) in
    omega (arith, placed_there (ImportPlace l) l.main.imports c.args.table.now.imports.items c.args.index c.requires.places.imports there, c.args.table.now.imports.ok)

pub index-requires-2 : goal.index-requires-2
index-requires-2 c =
    let l = view.linking c.args.linking.now in
    let there : c.args.index < length l.main.imports = omega (arith, c.requires.there, length_twice (core_import (module_value c.args.linking.now.main)) import_value c.args.linking.now.main.imports.items) in
    omega (arith, import_place_there l (view.places c.args.table.now) c.requires.places c.args.index c.index.result.now there c.index.ensures, length_once function_item c.args.linking.now.world.now.imports.items, c.args.linking.now.world.now.imports.ok)

pub returns : goal.returns
returns c =
    let l = view.linking c.args.linking.now in
    let there : c.args.index < length l.main.imports = omega (arith, c.requires.there, length_twice (core_import (module_value c.args.linking.now.main)) import_value c.args.linking.now.main.imports.items) in
    target_read c.args.linking.now.world.now.imports.items c.args.table.now.imports.items c.args.index c.index.result.now c.index-2.result.now
    (placed_there (ImportPlace l) l.main.imports c.args.table.now.imports.items c.args.index c.requires.places.imports there) c.index.ensures
    (omega (arith, import_place_there l (view.places c.args.table.now) c.requires.places c.args.index c.index.result.now there c.index.ensures, length_once function_item c.args.linking.now.world.now.imports.items)) c.index-2.ensures
