use Rattle.wit_uses.proofs.Joining.{joined_take}
use Rattle.wit_uses.proofs.law.law_joined_worlds_take_by_use.Goals as goal

pub returns : goal.returns
returns c = joined_take c.law_included_types_are_backward.ensures c.law_included_sides_are_there.ensures c.law_brought_takes_by_use.ensures
