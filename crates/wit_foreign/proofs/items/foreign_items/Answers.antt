use Rattle.wit_foreign.proofs.Gathering.{takes_next}
use Rattle.wit_foreign.proofs.items.foreign_items.Goals as goal

pub loop-need-preserved : goal.loop-need-preserved
loop-need-preserved c = takes_next c.args.needs.now c.loop-need.need-index c.need-item.result c.loop-need-test.true c.need-item.is c.loop-need.items c.take.new.self c.loop-need.invariant c.in_ok-take.ensures
