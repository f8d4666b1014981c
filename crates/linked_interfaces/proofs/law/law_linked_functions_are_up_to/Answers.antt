use Rattle.linked_interfaces.proofs.Linked.{functions_up_to}
use Rattle.linked_interfaces.proofs.law.law_linked_functions_are_up_to.Goals as goal

pub returns : goal.returns
returns c = functions_up_to
