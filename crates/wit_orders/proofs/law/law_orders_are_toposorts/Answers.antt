use Rattle.wit_orders.proofs.Toposort.{orders_are_toposorts}
use Rattle.wit_orders.proofs.law.law_orders_are_toposorts.Goals as goal

pub returns : goal.returns
returns c = orders_are_toposorts
