use Rattle.std.proofs.Common.{◌≡◌, drop}
use Rattle.std.specs.List.{list_all}
use Rattle.generated_modules.specs.Parts.{parts_value}
use Rattle.generated_modules.specs.Shape.{step_fits}
use Rattle.generated_modules.proofs.parts.Parts.steps_fit.Given as goal

abbrev pub invariant-loop-step : goal.invariant-loop-step
invariant-loop-step l = list_all (step_fits (parts_value l.self)) l.steps ≡ list_all (step_fits (parts_value l.self)) (drop l.step-index l.steps)
