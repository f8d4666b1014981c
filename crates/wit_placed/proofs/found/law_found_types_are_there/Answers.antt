use Rattle.wit_placed.proofs.Finding.{found_types_there}
use Rattle.wit_placed.proofs.found.law_found_types_are_there.Goals as goal

pub returns : goal.returns
returns c = found_types_there
