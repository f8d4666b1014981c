use Rattle.wit_order.proofs.Lists.{has_get}
use Rattle.wit_order.proofs.sorter.first_unset.Goals as goal

pub bounds-flags-row : goal.bounds-flags-row
bounds-flags-row c = c.requires.row _ (has_get c.args.row.now c.loop-at.at c.loop-at-test.true)
