use Rattle.wit_reach.proofs.Holding.{listed_are_all}
use Rattle.wit_reach.proofs.held.law_listed_types_are_all.Goals as goal

pub returns : goal.returns
returns c = listed_are_all
