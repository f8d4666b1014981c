use Rattle.wit_push_causes.proofs.Together.{equivalence}
use Rattle.wit_push_causes.proofs.law.law_saying_the_same_is_an_equivalence.Goals as goal

pub returns : goal.returns
returns c = equivalence
