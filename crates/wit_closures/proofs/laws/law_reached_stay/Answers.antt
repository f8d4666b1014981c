use Rattle.wit_closures.proofs.Reached.{reached_stay}
use Rattle.wit_closures.proofs.laws.law_reached_stay.Goals as goal

pub returns : goal.returns
returns c = reached_stay
