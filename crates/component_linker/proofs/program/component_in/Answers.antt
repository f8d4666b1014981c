use Rattle.component_linker.proofs.Files.{no_component_file, component_past, not_component}
use Rattle.component_linker.proofs.program.component_in.Goals as goal

pub returns-in-Component-clause-err : goal.returns-in-Component-clause-err
returns-in-Component-clause-err c =
    no_component_file c.args.files.now c.args.inputs.now c.loop-input.input-index c.input-item.result c.in-Component.path c.as_str.result.now c.bytes_at.result
    c.loop-input-test.true c.input-item.is c.in-Component.is c.as_str.ensures.value c.bytes_at.ensures.err

pub loop-input-preserved : goal.loop-input-preserved
loop-input-preserved c =
    component_past c.args.inputs.now c.loop-input.input-index c.input-item.result c.loop-input-test.true c.input-item.is (not_component _ c.in_default.not-Component) c.loop-input.invariant
