use Rattle.wit_order.proofs.Tables.{fault_denies_an_order}
use Rattle.wit_order.proofs.law.law_a_fault_denies_an_order.Goals as goal

pub returns : goal.returns
returns c = fault_denies_an_order
