use Rattle.std.proofs.Common.{◌≡◌, drop, map}
use Rattle.known_definitions.specs.Definition.{parameter_value}
use Rattle.wit_component.specs.Flat.{flat_value}
use Rattle.wit_component.specs.Meaning.{same_values}
use Rattle.component_audit.proofs.spaces.are_flat_values.Given as goal

abbrev pub invariant-loop-place : goal.invariant-loop-place
invariant-loop-place l = same_values l.values (map (λ p. flat_value p.ty) (map parameter_value l.params)) ≡ same_values (drop l.place l.values) (map (λ p. flat_value p.ty) (map parameter_value (drop l.place l.params)))
