use Rattle.linked_interfaces.proofs.Writable.{interfaces_writable}
use Rattle.linked_interfaces.proofs.law.law_linked_interfaces_are_writable.Goals as goal

pub returns : goal.returns
returns c = interfaces_writable c.law_earlier_types_are_used.ensures c.law_apart_are_distinct.ensures
