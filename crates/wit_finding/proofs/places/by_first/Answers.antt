use Rattle.std.proofs.Common.{nat_eq}
use Rattle.indexmap.specs.IndexMap.{get}
use Rattle.wit_finding.proofs.Placing.{next_known}
use Rattle.wit_finding.proofs.places.by_first.Goals as goal

pub loop-from-preserved : goal.loop-from-preserved
loop-from-preserved c = next_known c.args.pairs.now c.loop-from.from-index (0, 0) (get nat_eq c.loop-from.known) (get nat_eq c.insert.new.self) c.loop-from-test.true c.in_ok-insert.ensures.updates.0 c.loop-from.invariant
