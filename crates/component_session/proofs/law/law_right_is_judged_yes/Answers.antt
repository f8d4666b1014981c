use Rattle.component_session.proofs.Exact.{right_is_yes, right_is_judged}
use Rattle.component_session.proofs.law.law_right_is_judged_yes.Goals as goal

pub returns-clause-verdict : goal.returns-clause-verdict
returns-clause-verdict c = right_is_yes

pub returns-clause-cause : goal.returns-clause-cause
returns-clause-cause c = right_is_judged
