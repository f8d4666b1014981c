-- Worlds by the places at which they stand among the interfaces and worlds of a package.
use Rattle.std.specs.Prelude.{◌≡◌, ℕ, List, [], map, flat_map, Option, Some, None, slice_get}
use Rattle.wit_scopes.specs.Scopes as scope
use Rattle.wit_scopes.specs.Scopes.{WorldScope, ItemScope}
use Rattle.wit_interfaces.specs.Passed.wit_resolved_scopes-Texts.{world_of}

abbrev pub world_where : Option ItemScope → List WorldScope
world_where None = []
world_where (Some s) = world_of s

abbrev pub worlds_at : List ItemScope → List ℕ → List WorldScope
worlds_at scopes places = flat_map (λ p. world_where (slice_get scopes p)) places

-- at each of the places stands one
abbrev pub AreWorldPlaces : List ItemScope → List ℕ → Type 0
AreWorldPlaces scopes places = map (slice_get scopes) places ≡ map (λ w. Some (scope.world w)) (worlds_at scopes places)
