use Rattle.text_causes.proofs.Pushing.{groups_pushed}
use Rattle.text_causes.proofs.law.law_pushed_groups_have_no_cause.Goals as goal

pub returns : goal.returns
returns c = groups_pushed
