use Rattle.std.proofs.Common.{◌≡◌, map, drop}
use Rattle.std.specs.List.{list_any}
use Rattle.wasm_types.specs.Entries.{ImportValue, import_value}
use Rattle.wit_component.specs.CoreNames.{is_outer_memory}
use Rattle.wit_component.proofs.table.asks_for_memory.Given as goal

abbrev pub invariant-loop-import : goal.invariant-loop-import
invariant-loop-import l =
    list_any (λ (i : ImportValue). is_outer_memory i.place i.name) (map import_value (drop l.import-index l.imports)) ≡ list_any (λ (i : ImportValue). is_outer_memory i.place i.name) (map import_value l.imports)
