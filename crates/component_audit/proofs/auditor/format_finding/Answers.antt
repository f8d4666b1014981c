use Rattle.std.proofs.Common.{arith}
use Rattle.component_audit.proofs.Causes.{break_within}
use Rattle.component_audit.proofs.auditor.format_finding.Goals as goal

pub returns : goal.returns
returns c = λ l.
    let within = break_within c.args.bytes.now c.args.fault c.requires in
    (omega (arith, within), (c.args.fault.rule, c.args.fault.left, c.requires, omega (arith, within)))

pub overflow_sub-result : goal.overflow_sub-result
overflow_sub-result c = break_within c.args.bytes.now c.args.fault c.requires
