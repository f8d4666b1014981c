use Rattle.std.proofs.Common.{◌≡◌, drop, map}
use Rattle.std.specs.Cmp.Lexicographic.{pointwise}
use Rattle.known_definitions.specs.Definition.{parameter_value}
use Rattle.wit_component.specs.Meaning.{same_parameter}
use Rattle.component_audit.proofs.spaces.same_parameters.Given as goal

abbrev pub invariant-loop-place : goal.invariant-loop-place
invariant-loop-place l = pointwise same_parameter (map parameter_value l.a) (map parameter_value l.b) ≡ pointwise same_parameter (map parameter_value (drop l.place l.a)) (map parameter_value (drop l.place l.b))
