use Rattle.std.proofs.Common.{◌≡◌, drop}
use Rattle.std.specs.List.{list_all}
use Rattle.generated_modules.specs.Shape.{slot_fits, shape_value}
use Rattle.generated_modules.proofs.module.GeneratedModule.slots_fit.Given as goal

abbrev pub invariant-loop-global : goal.invariant-loop-global
invariant-loop-global l = list_all (slot_fits (shape_value l.self)) l.self.parts.globals.items ≡ list_all (slot_fits (shape_value l.self)) (drop l.global-index l.self.parts.globals.items)
