use Rattle.std.proofs.Common.{◌≡◌, drop}
use Rattle.wit_component.specs.Meaning.{same_values}
use Rattle.component_audit.proofs.spaces.same_values.Given as goal

abbrev pub invariant-loop-place : goal.invariant-loop-place
invariant-loop-place l = same_values l.a l.b ≡ same_values (drop l.place l.a) (drop l.place l.b)
