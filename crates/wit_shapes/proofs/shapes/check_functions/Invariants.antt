use Rattle.std.proofs.Common.{map, String}
use Rattle.std.specs.declared.alloc.Global.{Global}
use Rattle.wit_types.specs.declared.function.Function.{Function}
use Rattle.wit_shapes.specs.Shapes as spec
use Rattle.wit_moves.proofs.Leading.{Leads}
use Rattle.wit_shapes.proofs.shapes.check_functions.Given as goal

abbrev pub invariant-loop-function : goal.invariant-loop-function
invariant-loop-function l = Leads (spec.FunctionBreaks l.natures) (map (λ (e : String Global × Function). e.1) l.functions.entries) l.function-iterator
