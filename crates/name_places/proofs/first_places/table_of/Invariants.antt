use Rattle.std.proofs.Common.{map, take}
use Rattle.name_places.specs.FirstPlaces.{AreFirst}
use Rattle.name_places.proofs.first_places.table_of.Given as goal

abbrev pub invariant-loop-place : goal.invariant-loop-place
invariant-loop-place l = AreFirst l.table (map (λ n. n.now) (take l.place l.names))
