use Rattle.std.proofs.Common.{refl, subst}
use Rattle.component_linker.specs.Stops.{AppendsPart, out_path}
use Rattle.component_linker.specs.declared.program.Stop.TheVariants.{Refused}
use Rattle.wit_component.proofs.Results.{moved_up}
use Rattle.component_linker.proofs.Answering.{cut_off}
use Rattle.component_linker.proofs.program.build.Goals as goal

pub returns-in_err-put-clause-err : goal.returns-in_err-put-clause-err
returns-in_err-put-clause-err g c =
    let stop = c.in_err-put.field-0.0 in
    let part = subst (AppendsPart _ _) c.deref.ensures.value c.in_err-put.ensures.part in
    moved_up c.from_residual-in_err-put.result stop _ c.from_residual-in_err-put.ensures.1
    (cut_off _ _ _ (out_path c.args.line.now) stop c.in_err-put.ensures.err (0, c.in_ok-bytes.bytes.items, (refl, c.in_ok-bytes.ensures.right), part))

pub returns-in_err-bytes-clause-err : goal.returns-in_err-bytes-clause-err
returns-in_err-bytes-clause-err g c = moved_up c.from_residual.result (Refused c.in_err-bytes.field-0.0) _ c.from_residual.ensures.1 (refl, c.in_err-bytes.ensures.cause)
