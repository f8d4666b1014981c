use Rattle.wit_component.proofs.Results.{moved_up}
use Rattle.component_linker.proofs.Files.{fault_past, fault_here}
use Rattle.component_linker.proofs.program.look_at_files.Goals as goal

pub loop-input-preserved : goal.loop-input-preserved
loop-input-preserved c =
    fault_past c.args.files.now c.args.inputs.now c.loop-input.input-index c.input-item.result c.loop-input-test.true c.input-item.is c.in_ok-look_at.ensures.ok c.loop-input.invariant

pub returns-in_err-look_at-clause-err : goal.returns-in_err-look_at-clause-err
returns-in_err-look_at-clause-err c =
    let stop = c.in_err-look_at.field-0.0 in
    moved_up c.from_residual.result stop _ c.from_residual.ensures.1
    (fault_here c.args.files.now c.args.inputs.now c.loop-input.input-index c.input-item.result stop c.loop-input-test.true c.input-item.is c.loop-input.invariant c.in_err-look_at.ensures.err)
