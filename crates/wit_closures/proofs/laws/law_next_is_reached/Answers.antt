use Rattle.wit_closures.proofs.Reached.{next_reached}
use Rattle.wit_closures.proofs.laws.law_next_is_reached.Goals as goal

pub returns : goal.returns
returns c = next_reached
