-- Interfaces by the places at which they stand among the interfaces and worlds of a package.
use Rattle.std.specs.Prelude.{◌≡◌, ℕ, List, [], map, flat_map, Option, Some, None, slice_get}
use Rattle.wit_scopes.specs.Scopes as scope
use Rattle.wit_scopes.specs.Scopes.{InterfaceScope, ItemScope}
use Rattle.wit_resolved_scopes.specs.Texts.{interface_of}

abbrev pub interface_where : Option ItemScope → List InterfaceScope
interface_where None = []
interface_where (Some s) = interface_of s

abbrev pub interfaces_at : List ItemScope → List ℕ → List InterfaceScope
interfaces_at scopes places = flat_map (λ p. interface_where (slice_get scopes p)) places

-- at each of the places stands one
abbrev pub AreInterfacePlaces : List ItemScope → List ℕ → Type 0
AreInterfacePlaces scopes places = map (slice_get scopes) places ≡ map (λ i. Some (scope.ItemScope.interface i)) (interfaces_at scopes places)
