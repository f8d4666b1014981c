use Rattle.std.proofs.Common.{refl}
use Rattle.component_session.specs.Refusals.{IsAuditCause}
use Rattle.component_session.proofs.session.Session.audit.Goals as goal

pub returns-in-None-clause-cause : goal.returns-in-None-clause-cause
returns-in-None-clause-cause c = IsAuditCause.of_world refl (c.in_ok-plain.ensures.wide c.in-None.is)
