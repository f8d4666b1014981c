use Rattle.std.proofs.Common.{map, String}
use Rattle.std.specs.declared.alloc.Global.{Global}
use Rattle.wit_types.specs.declared.function.Function.{Function}
use Rattle.wit_features.specs.Gates as spec
use Rattle.wit_features.proofs.Leading.{Leads}
use Rattle.wit_features.proofs.gates.check_functions.Given as goal

abbrev pub invariant-loop-function : goal.invariant-loop-function
invariant-loop-function l = Leads l.of.version spec.of_function (map (λ (e : String Global × Function). e.1) l.functions.entries) l.function-iterator
