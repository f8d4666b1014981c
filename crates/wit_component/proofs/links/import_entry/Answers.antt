use Rattle.wasm_types.specs.Entries.{import_value}
use Rattle.wasm_format.specs.Module.{module_value}
use Rattle.wit_component.specs.Linking.{core_import}
use Rattle.wit_component.specs.View as view
use Rattle.plain_worlds.specs.World.{function_item}
use Rattle.wit_component.proofs.LinkLines.{get_twice, target_map, import_entry_read}
use Rattle.wit_component.proofs.links.import_entry.Goals as goal

pub returns : goal.returns
returns c =
    let l = view.linking c.args.linking.now in
    let t = view.places c.args.table.now in
    let i = core_import (module_value c.args.linking.now.main) (import_value c.index-import.result.now) in
    let f = function_item c.import_target-function.result.now in
    let is = get_twice (core_import (module_value c.args.linking.now.main)) import_value c.args.linking.now.main.imports.items c.args.index c.index-import.result.now c.requires.there c.index-import.ensures in
    rw c.as_str.ensures.value (i, is, import_entry_read l t c.requires.places c.args.index i f is (target_map function_item c.args.linking.now.world.now.imports.items t.imports c.args.index c.import_target-function.result.now c.import_target-function.ensures))
