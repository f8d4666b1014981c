use Rattle.std.proofs.Common.{◌≡◌, ◌++◌, map, take}
use Rattle.std.specs.List.{flat_map, All}
use Rattle.binary_grammar.specs.Syntax.{bytes, IsTyped}
use Rattle.component_instances.specs.Declarators.{declarator, declarator_value}
use Rattle.component_instances.proofs.declarators.put_each.Given as goal

abbrev pub invariant-loop-item : goal.invariant-loop-item
invariant-loop-item l = record {
  bytes : l.out.items ≡ l.initial.out.items ++ flat_map (bytes declarator) (map declarator_value (take l.item-index l.items));
  each : All (λ x. IsTyped declarator (declarator_value x)) (take l.item-index l.items);
}
