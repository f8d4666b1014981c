use Rattle.std.proofs.Common.{take}
use Rattle.linked_types.specs.Reached.{AreTypesLinked}
use Rattle.linked_types.proofs.functions.check_types.Given as goal

abbrev pub invariant-loop-id : goal.invariant-loop-id
invariant-loop-id l = AreTypesLinked l.types (take l.id-index l.ids)
