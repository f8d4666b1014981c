use Rattle.std.proofs.Common.{arith}
use Rattle.wit_package.proofs.Naming.{next_kept, needs_kept, need_is_broken}
use Rattle.wit_package.proofs.versions.check_needs.Goals as goal

pub loop-need-preserved : goal.loop-need-preserved
loop-need-preserved c = next_kept c.args.needs.now c.loop-need.need-index c.need-item.result c.loop-need-test.true c.need-item.is c.loop-need.invariant c.in_default.ensures.ok

pub returns-clause-ok : goal.returns-clause-ok
returns-clause-ok c = needs_kept c.args.needs.now (λ k x less at. c.loop-need.invariant k x (omega (arith, c.loop-need-test.false, less)) at)

pub returns-in-Err-clause-cause : goal.returns-in-Err-clause-cause
returns-in-Err-clause-cause c = need_is_broken c.args.needs.now c.loop-need.need-index c.need-item.result c.loop-need-test.true c.need-item.is c.in-Err.fault c.in-Err.ensures.cause
