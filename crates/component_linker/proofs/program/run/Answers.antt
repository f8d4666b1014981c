use Rattle.std.proofs.Common.{inl, inr, refl}
use Rattle.component_linker.proofs.program.run.Goals as goal

pub returns-in-Ok-perform-clause-ends : goal.returns-in-Ok-perform-clause-ends
returns-in-Ok-perform-clause-ends g c = rw c.in-Ok.is (inl (c.in-Ok-perform.ensures.ok, refl))

pub returns-in-Err-perform-clause-ends : goal.returns-in-Err-perform-clause-ends
returns-in-Err-perform-clause-ends g c = rw c.in-Ok.is (inr (record { stop = _; why = c.in-Err-perform.ensures.err; status_is = c.report.ensures.status; says = c.report.ensures.text }))
