use Rattle.std.proofs.Common.{◌≡◌}
use Rattle.std.specs.List.{flat_map}
use Rattle.component_sections.proofs.component.definitions_of.Given as goal

abbrev pub invariant-loop-section : goal.invariant-loop-section
invariant-loop-section l = l.definitions.items ≡ flat_map (λ s. s.definitions.items) l.yielded
