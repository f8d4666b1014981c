use Rattle.component_session.proofs.NoCause.{one_linking, no_cause}
use Rattle.component_session.proofs.law.law_ready_has_no_cause.Goals as goal

pub returns-clause-one : goal.returns-clause-one
returns-clause-one c = one_linking

pub returns-clause-none : goal.returns-clause-none
returns-clause-none c = no_cause
