use Rattle.std.proofs.Common.{◌≡◌, drop}
use Rattle.generated_modules.specs.Shape.{same_values}
use Rattle.generated_modules.proofs.fitting.same_values.Given as goal

abbrev pub invariant-loop-place : goal.invariant-loop-place
invariant-loop-place l = same_values l.a l.b ≡ same_values (drop l.place l.a) (drop l.place l.b)
