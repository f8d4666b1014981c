use Rattle.std.proofs.Common.{nat_eq, take}
use Rattle.indexmap.specs.IndexMap.{get}
use Rattle.wit_finding.specs.Places as spec
use Rattle.wit_finding.proofs.places.by_first.Given as goal

abbrev pub invariant-loop-from : goal.invariant-loop-from
invariant-loop-from l = spec.AreKnown (take l.from-index l.pairs) (get nat_eq l.known)
