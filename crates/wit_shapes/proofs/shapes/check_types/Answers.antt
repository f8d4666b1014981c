use Rattle.wit_shapes.specs.Shapes as spec
use Rattle.wit_moves.proofs.Leading.{leads_at}
use Rattle.wit_shapes.proofs.shapes.check_types.Goals as goal

pub loop-def-preserved : goal.loop-def-preserved
loop-def-preserved c = leads_at (spec.TypeBreaks c.args.natures.now) c.args.types.now c.loop-def.def-index c.def-item.result c.loop-def-test.true c.def-item.is c.in_ok-check_type.ensures.ok c.loop-def.invariant
