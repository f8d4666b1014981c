use Rattle.std.proofs.Common.{◌≡◌, ◌<◌, ℕ, List, [], length, map, take, get_or, subst, sym, arith}
use Rattle.std.proofs.lemmas.List.{length-map}
use Rattle.wit_scopes.specs.Scopes.{ItemScope}
use Rattle.wit_scopes.specs.View as scope_view
use Rattle.wit_package.specs.Places.{ArePlacesOf}
use Rattle.wit_package.proofs.Sorting.{next_at, next_within, sorted_more, sorted_all, places_more, no_places}
use Rattle.wit_package.proofs.places.places_of.Goals as goal

pub add_place-requires : goal.add_place-requires
add_place-requires c =
    let within : get_or c.args.order.now c.loop-place.place-index 0 < length (map scope_view.item_scope c.args.scopes.now) = next_within (map scope_view.item_scope c.args.scopes.now) c.requires.0 c.args.order.now c.requires.1 c.loop-place.place-index c.loop-place-test.true in
    let size : length (map scope_view.item_scope c.args.scopes.now) ≡ length c.args.scopes.now = length-map c.args.scopes.now scope_view.item_scope in
    omega (arith, within, size)

pub loop-place-init : goal.loop-place-init
loop-place-init c = λ sorted at.
    let ss : List ItemScope = map scope_view.item_scope c.args.scopes.now in
    subst (λ (is : List ℕ). ArePlacesOf ss [] is c.new-2.result.items) (sym c.new.ensures.items) (subst (λ (ws : List ℕ). ArePlacesOf ss [] [] ws) (sym c.new-2.ensures.items) (no_places ss))

pub loop-place-preserved : goal.loop-place-preserved
loop-place-preserved c = λ sorted at.
    let ss : List ItemScope = map scope_view.item_scope c.args.scopes.now in
    let k : ℕ = c.loop-place.place-index in
    let next = next_at ss sorted c.args.order.now at k c.loop-place-test.true in
    let found = c.add_place.new.found in
    subst (λ (so_far : List ItemScope). ArePlacesOf ss so_far found.interfaces.items found.worlds.items) (sym (sorted_more ss sorted c.args.order.now at k c.loop-place-test.true next.0 next.2))
    (places_more ss c.loop-place.found.interfaces.items c.loop-place.found.worlds.items (take k sorted) (c.loop-place.invariant sorted at) (get_or c.args.order.now k 0) next.0 next.2 found.interfaces.items found.worlds.items
    (c.in_ok-add_place.ensures.interfaces next.0 next.2) (c.in_ok-add_place.ensures.worlds next.0 next.2))

pub returns : goal.returns
returns c = λ sorted at.
    let end : c.loop-place.place-index ≡ length c.args.order.now = omega arith in
    subst (λ (all : List ItemScope). ArePlacesOf (map scope_view.item_scope c.args.scopes.now) all c.loop-place.found.interfaces.items c.loop-place.found.worlds.items)
    (sorted_all (map scope_view.item_scope c.args.scopes.now) sorted c.args.order.now at c.loop-place.place-index end) (c.loop-place.invariant sorted at)
