use Rattle.std.proofs.Common.{map, String}
use Rattle.std.proofs.lemmas.Result.{err_from_is_err_and}
use Rattle.std.specs.declared.alloc.Global.{Global}
use Rattle.wit_types.specs.declared.function.Function.{Function}
use Rattle.wit_features.specs.Gates as spec
use Rattle.wit_features.proofs.Leading.{leads_on, late_here, leads_done, gate_on_time, gate_late}
use Rattle.wit_features.proofs.gates.check_functions.Goals as goal

pub loop-function-preserved : goal.loop-function-preserved
loop-function-preserved c = leads_on c.args.of.now.version spec.of_function (map (λ (e : String Global × Function). e.1) c.args.functions.now.entries) c.in-Some.function.now c.next.new.self c.loop-function.function-iterator c.in-Some.ensures.steps (gate_on_time c.args.of.now.version c.in-Some.function.now.stability c.in-Some.function.now.span c.in_ok-check_gate.ensures.ok) c.loop-function.invariant

pub returns-in_err-check_gate-clause-cause : goal.returns-in_err-check_gate-clause-cause
returns-in_err-check_gate-clause-cause c =
    let p = err_from_is_err_and c.from_residual.result c.from_residual.ensures.1 in
    let f = c.in-Some.function.now in
    let late = c.in_err-check_gate.ensures.cause in
    rw (p.1, p.2, late.0) (late_here c.args.of.now.version spec.of_function (map (λ (e : String Global × Function). e.1) c.args.functions.now.entries) f c.next.new.self c.loop-function.function-iterator f.span c.in-Some.ensures.steps (gate_late c.args.of.now.version f.stability f.span late.1) c.loop-function.invariant)

pub returns-clause-ok : goal.returns-clause-ok
returns-clause-ok c = leads_done c.args.of.now.version spec.of_function (map (λ (e : String Global × Function). e.1) c.args.functions.now.entries) c.loop-function.function-iterator c.in-None.ensures.steps.0 c.loop-function.invariant
