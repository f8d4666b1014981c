use Rattle.component_session.proofs.NoCause.{one_wide_linking, wide_no_cause}
use Rattle.component_session.proofs.law.law_wide_ready_has_no_cause.Goals as goal

pub returns-clause-one : goal.returns-clause-one
returns-clause-one c = one_wide_linking

pub returns-clause-none : goal.returns-clause-none
returns-clause-none c = λ input l whole. wide_no_cause input l c.law_linked_has_no_cause.ensures whole
