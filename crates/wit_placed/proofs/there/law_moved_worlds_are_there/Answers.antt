use Rattle.wit_placed.proofs.Standing.{worlds_there}
use Rattle.wit_placed.proofs.there.law_moved_worlds_are_there.Goals as goal

pub returns : goal.returns
returns c = worlds_there
