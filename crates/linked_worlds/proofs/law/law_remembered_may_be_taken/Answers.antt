use Rattle.linked_worlds.proofs.Taken.{remembered_taken}
use Rattle.linked_worlds.proofs.law.law_remembered_may_be_taken.Goals as goal

pub returns : goal.returns
returns c = remembered_taken
