use Rattle.linked_worlds.proofs.Needed.{needed_are_linked}
use Rattle.linked_worlds.proofs.law.law_needed_are_linked.Goals as goal

pub returns : goal.returns
returns c = needed_are_linked
