use Rattle.component_session.proofs.NoCause.{no_build_cause, no_wide_build_cause}
use Rattle.component_session.proofs.law.law_built_has_no_cause.Goals as goal

pub returns-clause-plain : goal.returns-clause-plain
returns-clause-plain c = no_build_cause

pub returns-clause-wide : goal.returns-clause-wide
returns-clause-wide c = λ input bytes whole. no_wide_build_cause input bytes c.law_linked_has_no_cause.ensures whole
