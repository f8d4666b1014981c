use Rattle.wit_reach.proofs.Holding.{held_in_order}
use Rattle.wit_reach.proofs.held.law_held_are_in_order.Goals as goal

pub returns : goal.returns
returns c = held_in_order
