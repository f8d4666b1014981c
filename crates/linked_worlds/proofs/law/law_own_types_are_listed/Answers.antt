use Rattle.linked_worlds.proofs.Own.{own_listed}
use Rattle.linked_worlds.proofs.law.law_own_types_are_listed.Goals as goal

pub returns : goal.returns
returns c = own_listed
