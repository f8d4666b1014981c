use Rattle.std.proofs.Common.{◌++◌, ◌+◌, drop, take, subst}
use Rattle.wit_component.specs.Meaning.{given_by}
use Rattle.wit_component.specs.Right.{IsOnce}
use Rattle.component_audit.specs.SpacesView.{source, all_given, is_within}
use Rattle.component_audit.proofs.Judged.{given_here, within_here}
use Rattle.component_audit.proofs.auditor.instances_finding.Goals as goal

pub returns-in-Err : goal.returns-in-Err
returns-in-Err c =
    let is = c.args.instances.now in
    let k = c.loop-instance.instance-index in
    let i = c.instance-item.result in
    let more = all_given (drop (k + 1) is) in
    let within = (within_here is k i c.loop-instance-test.true c.instance-item.is (is_within c.args.length) c.loop-instance.invariant.within).0 in
    let fails : IsOnce (all_given (take k is) ++ (given_by (source i) ++ more)) → ⊥ = c.in-Err.ensures.err (all_given (take k is)) more c.loop-instance.invariant.so_far in
    (c.in-Err.ensures.within c.args.length within, λ once. fails (subst IsOnce (given_here is k i c.loop-instance-test.true c.instance-item.is) once))
