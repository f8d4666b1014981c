use Rattle.std.proofs.Common.{◌≡◌, map, take, None}
use Rattle.name_places.specs.FirstPlaces.{place_of}
use Rattle.name_places.proofs.first_places.place_among.Given as goal

abbrev pub invariant-loop-place : goal.invariant-loop-place
invariant-loop-place l = place_of l.name (map (λ n. n.now) (take l.place l.names)) ≡ None
