use Rattle.std.proofs.Common.{◌≡◌, map, take}
use Rattle.wasm_types.specs.Entries.{import_value}
use Rattle.wasm_format.specs.Module.{module_value}
use Rattle.wit_component.specs.Candidates.{names_in}
use Rattle.wit_component.specs.Cause.{RepeatsPair}
use Rattle.wit_component.specs.CoreNames.{root, standard}
use Rattle.wit_component.specs.Linking.{core_import}
use Rattle.wit_component.specs.Places.{Placed, ImportPlace}
use Rattle.wit_component.specs.View as view
use Rattle.wit_component.proofs.table.add_places.Given as goal

abbrev pub invariant-loop-import : goal.invariant-loop-import
invariant-loop-import l =
    let done = map (core_import (module_value l.linking.main)) (map import_value (take l.import-index l.linking.main.imports.items)) in
    record {
      legacy : l.table.legacy ≡ names_in done root;
      standard : l.table.standard ≡ names_in done standard;
      imports : Placed (ImportPlace (view.linking l.linking)) done l.table.imports.items;
      distinct : RepeatsPair done → ⊥;
      exports : l.table.exports ≡ l.fn.table.exports;
    }
