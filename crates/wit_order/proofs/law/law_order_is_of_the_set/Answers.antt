use Rattle.wit_order.proofs.Tables.{order_is_of_the_set}
use Rattle.wit_order.proofs.law.law_order_is_of_the_set.Goals as goal

pub returns : goal.returns
returns c = order_is_of_the_set
