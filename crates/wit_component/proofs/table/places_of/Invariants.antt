use Rattle.std.proofs.Common.{map, take}
use Rattle.plain_worlds.specs.World.{FunctionItem, function_item}
use Rattle.wit_component.specs.Candidates.{candidates, Notes}
use Rattle.wit_component.proofs.table.places_of.Given as goal

abbrev pub invariant-loop-place : goal.invariant-loop-place
invariant-loop-place l = Notes (λ (f : FunctionItem). f.name) (map function_item (take l.place l.functions)) (candidates l.places)
