use Rattle.std.proofs.Common.{ap, ◌∙◌}
use Rattle.component_session.specs.Faults.{of_module}
use Rattle.component_session.proofs.session.check_module.Goals as goal

pub returns-in-Err-clause-only : goal.returns-in-Err-clause-only
returns-in-Err-clause-only c = λ m h. c.module_refusal.ensures ∙ ap of_module (c.in-Err.ensures.only m h)
