use Rattle.wit_offsets.proofs.Lists.{walked_more, walked_all}
use Rattle.wit_offsets.proofs.shift.move_all.Goals as goal

pub loop-item-preserved : goal.loop-item-preserved
loop-item-preserved g c =
    let i = c.loop-item.item-index in
    walked_more g.T.Placed.by g.T.Placed.spans i c.args.shift.now c.loop-item.shift c.move_by.new.shift c.args.items.now c.loop-item.items c.item-item.result c.move_by.new.self c.loop-item.invariant c.loop-item-test.true c.move_by.ensures

pub returns : goal.returns
returns g c = walked_all g.T.Placed.by g.T.Placed.spans c.loop-item.item-index c.args.shift.now c.loop-item.shift c.args.items.now c.loop-item.items c.loop-item.invariant c.loop-item-test.false
