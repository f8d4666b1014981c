use Rattle.std.proofs.Common.{◌≡◌, map, take}
use Rattle.plain_worlds.specs.World.{function_item}
use Rattle.wit_component.proofs.table.references.Given as goal

abbrev pub invariant-loop-function : goal.invariant-loop-function
invariant-loop-function l = map (λ f. function_item f.now) l.found.items ≡ map function_item (take l.function-index l.functions)
