use Rattle.std.proofs.Common.{◌≡◌, ◌++◌, List, length}
use Rattle.std.specs.List.{flat_map}
use Rattle.wasm_bodies.specs.declared.generated.StartStep.{StartStep}
use Rattle.wasm_bodies.specs.Generated.{step_instructions, IsStartCode}
use Rattle.wasm_bodies.proofs.Again.{Left}
use Rattle.wasm_bodies.proofs.decoding.start_steps.Given as goal

abbrev pub invariant-loop-rest : goal.invariant-loop-rest
invariant-loop-rest l = record {
  front : l.instructions ≡ flat_map step_instructions l.steps.items ++ l.rest;
  left : (ss : List StartStep) → IsStartCode l.instructions ss → Left ss l.steps.items l.rest;
}

abbrev pub decreases-loop-rest : goal.decreases-loop-rest
decreases-loop-rest l = length l.rest
