use Rattle.std.proofs.Common.{map, String}
use Rattle.std.specs.declared.alloc.Global.{Global}
use Rattle.wit_types.specs.declared.function.Function.{Function}
use Rattle.wit_shapes.specs.Shapes as spec
use Rattle.wit_moves.proofs.Leading.{leads_on}
use Rattle.wit_shapes.proofs.shapes.check_functions.Goals as goal

pub loop-function-preserved : goal.loop-function-preserved
loop-function-preserved c =
    leads_on (spec.FunctionBreaks c.args.natures.now) (map (λ (e : String Global × Function). e.1) c.args.functions.now.entries) c.in-Some.function.now c.next.new.self c.loop-function.function-iterator c.in-Some.ensures.steps c.in_ok-check_function.ensures.ok c.loop-function.invariant
