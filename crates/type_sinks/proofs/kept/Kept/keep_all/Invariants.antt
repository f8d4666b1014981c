use Rattle.std.proofs.Common.{take}
use Rattle.type_sinks.specs.Kept.{index_of, AreKept}
use Rattle.type_sinks.proofs.kept.Kept.keep_all.Given as goal

abbrev pub invariant-loop-id : goal.invariant-loop-id
invariant-loop-id l = AreKept (index_of l.initial.self) (index_of l.self) (take l.id-index l.ids) l.index
