use Rattle.std.proofs.Common.{◌≡◌, ◌++◌, take}
use Rattle.std.specs.List.{flat_map}
use Rattle.wasm_bodies.specs.Generated.{step_instructions}
use Rattle.wasm_bodies.proofs.generated.push_steps.Given as goal

abbrev pub invariant-loop-step : goal.invariant-loop-step
invariant-loop-step l = l.out.items ≡ l.initial.out.items ++ flat_map step_instructions (take l.step-index l.steps)
