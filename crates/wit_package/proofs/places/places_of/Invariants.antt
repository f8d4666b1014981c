use Rattle.std.proofs.Common.{List, map, take}
use Rattle.wit_scopes.specs.Scopes.{ItemScope}
use Rattle.wit_scopes.specs.View as scope_view
use Rattle.wit_package.specs.Places as spec
use Rattle.wit_package.proofs.places.places_of.Given as goal

abbrev pub invariant-loop-place : goal.invariant-loop-place
invariant-loop-place l =
    (sorted : List ItemScope) → spec.AreAt (map scope_view.item_scope l.scopes) l.order sorted → spec.ArePlacesOf (map scope_view.item_scope l.scopes) (take l.place-index sorted) l.found.interfaces.items l.found.worlds.items
