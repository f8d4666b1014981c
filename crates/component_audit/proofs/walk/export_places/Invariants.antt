use Rattle.std.proofs.Common.{◌≡◌, map, take}
use Rattle.component_audit.proofs.walk.export_places.Given as goal

abbrev pub invariant-loop-export : goal.invariant-loop-export
invariant-loop-export l = l.places ≡ map (λ e. e.name.now) (take l.export-index l.export-items)
