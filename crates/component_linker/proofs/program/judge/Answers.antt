use Rattle.std.proofs.Common.{refl, rules}
use Rattle.component_linker.specs.Program.{verdict_status}
use Rattle.component_linker.specs.Stops.{out_path}
use Rattle.component_linker.specs.declared.program.Stop.TheVariants.{Refused}
use Rattle.wit_component.proofs.Results.{moved_up}
use Rattle.component_linker.proofs.Answering.{cut_off}
use Rattle.component_linker.proofs.program.judge.Goals as goal

pub returns-in_err-put-clause-err : goal.returns-in_err-put-clause-err
returns-in_err-put-clause-err g c =
    let stop = c.in_err-put.field-0.0 in
    let verdict = c.in_ok-verdict.verdict in
    moved_up c.from_residual-in_err-put.result stop _ c.from_residual-in_err-put.ensures.1
    (cut_off _ _ _ (out_path c.args.line.now) stop c.in_err-put.ensures.err (verdict_status verdict, c.as_bytes.result.now, (verdict, c.in_ok-verdict.ensures.verdict, refl, search rules), c.in_err-put.ensures.part))

pub returns-in_err-verdict-clause-err : goal.returns-in_err-verdict-clause-err
returns-in_err-verdict-clause-err g c = moved_up c.from_residual.result (Refused c.in_err-verdict.field-0.0) _ c.from_residual.ensures.1 (refl, c.in_err-verdict.ensures.cause)
