-- The places of interfaces and worlds in their order.
use Rattle.std.specs.Prelude.{◌≡◌, ℕ, List, [], ◌∷◌, map, Some, slice_get}
use Rattle.wit_scopes.specs.Scopes as scope
use Rattle.wit_scopes.specs.Scopes.{ItemScope}
use Rattle.wit_built_worlds.specs.Passed.wit_resolved_scopes-Texts.{interfaces_of, worlds_of}
use Rattle.wit_built_worlds.specs.Passed.wit_interfaces-Places.{interfaces_at, AreInterfacePlaces}
use Rattle.wit_built_worlds.specs.Places.{worlds_at, AreWorldPlaces}

-- what stands at these places
abbrev pub AreAt : List ItemScope → List ℕ → List ItemScope → Type 0
AreAt scopes places sorted = map (slice_get scopes) places ≡ map (λ s. Some s) sorted

-- the place of an interface, and that of a world
abbrev pub interface_place : ItemScope → ℕ → List ℕ
interface_place (scope.ItemScope.interface i) place = place ∷ []
interface_place (scope.world w) place = []

abbrev pub world_place : ItemScope → ℕ → List ℕ
world_place (scope.ItemScope.interface i) place = []
world_place (scope.world w) place = place ∷ []

-- those of the interfaces and worlds of an order
pub record ArePlacesOf (scopes sorted : List ItemScope) (interfaces worlds : List ℕ) : Type 0 where
  pub interface_places : AreInterfacePlaces scopes interfaces
  pub interfaces_are : interfaces_at scopes interfaces ≡ interfaces_of sorted
  pub world_places : AreWorldPlaces scopes worlds
  pub worlds_are : worlds_at scopes worlds ≡ worlds_of sorted
