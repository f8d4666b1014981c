use Rattle.wit_placed.proofs.Finding.{found_there}
use Rattle.wit_placed.proofs.found.law_found_are_there.Goals as goal

pub returns : goal.returns
returns c = found_there
