use Rattle.linked_components.proofs.Order.{used_stand_before}
use Rattle.linked_components.proofs.law.law_used_stand_before.Goals as goal

pub returns : goal.returns
returns c = used_stand_before c.law_types_use_earlier.ensures
