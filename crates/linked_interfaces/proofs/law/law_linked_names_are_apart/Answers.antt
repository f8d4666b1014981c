use Rattle.linked_interfaces.proofs.Linked.{names_apart}
use Rattle.linked_interfaces.proofs.law.law_linked_names_are_apart.Goals as goal

pub returns : goal.returns
returns c = names_apart
