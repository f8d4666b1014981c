use Rattle.std.proofs.Common.{◌≡◌, take}
use Rattle.flat_types.specs.Flat.{join_places}
use Rattle.flat_types.proofs.known.join_places.Given as goal

abbrev pub invariant-loop-place : goal.invariant-loop-place
invariant-loop-place l = l.places.items ≡ join_places l.initial.places.items (take l.place l.others)
