use Rattle.std.proofs.Common.{map, take}
use Rattle.wasm_types.specs.Entries.{import_value}
use Rattle.link_table.specs.Linking.{linking_value}
use Rattle.link_table.specs.Walks.{ArePlain}
use Rattle.link_table.proofs.lookup.Lookup.check_imports.Given as goal

abbrev pub invariant-loop-place : goal.invariant-loop-place
invariant-loop-place l = ArePlain (linking_value l.self.linking) (take l.place (map import_value l.imports)) (map (λ f. f.now) l.functions)
