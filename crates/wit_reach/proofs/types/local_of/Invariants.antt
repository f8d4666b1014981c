use Rattle.std.proofs.Common.{take}
use Rattle.wit_reach.specs.Types.{AreLocalOf}
use Rattle.wit_reach.proofs.types.local_of.Given as goal

abbrev pub invariant-loop-id : goal.invariant-loop-id
invariant-loop-id l = AreLocalOf l.world l.types (take l.id-index l.ids) l.found.items
