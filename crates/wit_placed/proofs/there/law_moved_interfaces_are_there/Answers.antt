use Rattle.wit_placed.proofs.Standing.{interfaces_there}
use Rattle.wit_placed.proofs.there.law_moved_interfaces_are_there.Goals as goal

pub returns : goal.returns
returns c = interfaces_there
