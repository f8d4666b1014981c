use Rattle.std.proofs.Common.{sym}
use Rattle.component_audit.proofs.verdict.Verdict.to_text.Goals as goal

pub returns-in-Finding : goal.returns-in-Finding
returns-in-Finding c = rw (c.in-Finding.is, sym c.number-number.ensures, sym c.name-name.ensures) c.format.ensures.ok
