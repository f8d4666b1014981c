use Rattle.std.proofs.Common.{◌≡◌, ◌++◌, Some}
use Rattle.wasm_bodies.specs.Generated.{behind, parameters}
use Rattle.wasm_bodies.proofs.decoding.behind_parameters.Given as goal

abbrev pub invariant-loop-parameter : goal.invariant-loop-parameter
invariant-loop-parameter l = (behind l.parameter l.instructions ≡ Some l.rest) × (l.instructions ≡ parameters l.parameter ++ l.rest)
