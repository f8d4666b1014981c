use Rattle.std.proofs.Common.{map, take}
use Rattle.link_table.specs.Linking.{linking_value, AreImported}
use Rattle.link_table.proofs.imports.imported_functions.Given as goal

abbrev pub invariant-loop-index : goal.invariant-loop-index
invariant-loop-index l = AreImported (linking_value l.linking).names (take l.index (linking_value l.linking).main.imports) (map (λ f. f.now) l.functions.items)
