use Rattle.wit_push_causes.proofs.Together.{none_together}
use Rattle.wit_push_causes.proofs.law.law_groups_together_have_no_cause.Goals as goal

pub returns : goal.returns
returns c = none_together
