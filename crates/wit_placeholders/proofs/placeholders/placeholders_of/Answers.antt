use Rattle.wit_foreign.specs.View as seen
use Rattle.wit_foreign.proofs.Gathering.{next_at}
use Rattle.wit_placeholders.proofs.Asking.{step, whole, past_all}
use Rattle.wit_placeholders.proofs.placeholders.placeholders_of.Goals as goal

pub item_of-item-requires : goal.item_of-item-requires
item_of-item-requires c = c.requires.there _ (c.loop-need.need-index, next_at c.args.needs.now c.loop-need.need-index c.need-item.result c.loop-need-test.true c.need-item.is)

pub loop-need-preserved : goal.loop-need-preserved
loop-need-preserved c =
    let adds = c.in_ok-add_item.ensures in
    step (seen.needs c.args.needs.now) c.args.items.now c.requires c.loop-need.need-index _ (next_at c.args.needs.now c.loop-need.need-index c.need-item.result c.loop-need-test.true c.need-item.is) c.loop-need.interfaces c.loop-need.worlds c.loop-need.invariant
    c.item_of-item.result c.item_of-item.ensures c.add_item.new.interfaces c.add_item.new.worlds adds.next_interface adds.next_world adds.interfaces adds.worlds

pub returns : goal.returns
returns c =
    whole (seen.needs c.args.needs.now) c.args.items.now c.requires c.loop-need.need-index (past_all c.args.needs.now c.loop-need.need-index c.loop-need-test.false) c.loop-need.interfaces c.loop-need.worlds c.loop-need.invariant
