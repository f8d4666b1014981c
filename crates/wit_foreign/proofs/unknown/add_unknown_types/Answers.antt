use Rattle.wit_foreign.proofs.Using.{next_interface, adds_next}
use Rattle.wit_foreign.proofs.unknown.add_unknown_types.Goals as goal

pub add_used-requires : goal.add_used-requires
add_used-requires c = next_interface c.args.items.now c.args.needs.now c.loop-need.need-index c.need-item.result c.loop-need-test.true c.need-item.is c.requires.items c.requires.uses

pub loop-need-preserved : goal.loop-need-preserved
loop-need-preserved c =
    adds_next c.args.items.now c.args.needs.now c.loop-need.need-index c.need-item.result c.loop-need-test.true c.need-item.is c.loop-need.types c.loop-need.known c.loop-need.spans.items c.add_used.new.types c.add_used.new.known c.add_used.new.spans.items c.loop-need.invariant c.in_ok-add_used.ensures
