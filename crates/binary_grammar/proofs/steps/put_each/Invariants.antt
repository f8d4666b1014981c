use Rattle.std.proofs.Common.{◌≡◌, ◌∷◌, ◌++◌, map, take}
use Rattle.std.specs.List.{flat_map, All}
use Rattle.binary_grammar.specs.Syntax.{bytes, IsTyped}
use Rattle.binary_grammar.proofs.steps.put_each.Given as goal

abbrev pub invariant-loop-item : goal.invariant-loop-item
invariant-loop-item g l = record {
  bytes : l.out.items ≡ l.initial.out.items ++ flat_map (λ x. g.T.Instruction.which x ∷ bytes (g.T.Instruction.next (g.T.Instruction.which x)) x) (map g.T.Instruction.value (take l.item-index l.items));
  each : All (λ x. IsTyped (g.T.Instruction.next (g.T.Instruction.which (g.T.Instruction.value x))) (g.T.Instruction.value x)) (take l.item-index l.items);
}
