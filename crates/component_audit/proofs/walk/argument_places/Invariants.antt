use Rattle.std.proofs.Common.{◌≡◌, map, take}
use Rattle.component_audit.proofs.walk.argument_places.Given as goal

abbrev pub invariant-loop-arg : goal.invariant-loop-arg
invariant-loop-arg l = l.places ≡ map (λ a. a.name.now) (take l.arg-index l.args)
