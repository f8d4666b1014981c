use Rattle.std.proofs.Common.{◌≡◌, drop, map}
use Rattle.std.specs.Cmp.Lexicographic.{pointwise}
use Rattle.known_definitions.specs.Definition.{parameter_value}
use Rattle.wit_component.specs.Meaning.{same_parameter}
use Rattle.plain_worlds.specs.World.{param_item}
use Rattle.component_audit.proofs.auditor.have_types.Given as goal

abbrev pub invariant-loop-place : goal.invariant-loop-place
invariant-loop-place l = pointwise same_parameter (map param_item l.a) (map parameter_value l.b) ≡ pointwise same_parameter (map param_item (drop l.place l.a)) (map parameter_value (drop l.place l.b))
