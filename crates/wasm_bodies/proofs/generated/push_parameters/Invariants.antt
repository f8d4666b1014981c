use Rattle.std.proofs.Common.{◌≡◌, ◌++◌}
use Rattle.wasm_bodies.specs.Generated.{parameters}
use Rattle.wasm_bodies.proofs.generated.push_parameters.Given as goal

abbrev pub invariant-loop-parameter : goal.invariant-loop-parameter
invariant-loop-parameter l = l.out.items ≡ l.initial.out.items ++ parameters l.parameter
