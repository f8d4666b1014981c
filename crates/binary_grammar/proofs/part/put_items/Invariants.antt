use Rattle.std.proofs.Common.{◌≡◌, ◌++◌, map, take}
use Rattle.std.specs.List.{flat_map, All}
use Rattle.binary_grammar.specs.Syntax.{bytes, IsTyped}
use Rattle.binary_grammar.proofs.part.put_items.Given as goal

abbrev pub invariant-loop-item : goal.invariant-loop-item
invariant-loop-item g l = record {
  bytes : l.out.items ≡ l.initial.out.items ++ flat_map (bytes g.T.Part.syntax) (map g.T.Part.value (take l.item-index l.items));
  each : All (λ x. IsTyped g.T.Part.syntax (g.T.Part.value x)) (take l.item-index l.items);
}
