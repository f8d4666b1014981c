use Rattle.wit_push_causes.proofs.Together.{together_same}
use Rattle.wit_push_causes.proofs.law.law_groups_together_say_the_same.Goals as goal

pub returns : goal.returns
returns c = together_same
