use Rattle.std.proofs.Common.{◌≡◌, ◌<◌, length, Some, refl, sym, subst, ◌∙◌, arith}
use Rattle.name_places.specs.FirstPlaces.{place_of}
use Rattle.name_places.proofs.Places.{place_within}
use Rattle.wit_syntax.specs.AstView as view
use Rattle.wit_scopes.specs.declared.paths.Target.{Target}
use Rattle.wit_scopes.specs.View as scope_view
use Rattle.wit_types.specs.declared.«package».AstItem.TheVariants as ids
use Rattle.wit_foreign.specs.Passed.wit_lookups-declared-asks-Asked-TheVariants.{World}
use Rattle.wit_foreign.specs.Items.{owner_asked}
use Rattle.wit_resolved_scopes.proofs.Orders.{named_place}
use Rattle.wit_worlds.specs.Paths.{IsWorldThere}
use Rattle.wit_worlds.specs.PathView as seen
use Rattle.wit_worlds.proofs.paths.Paths.world.Goals as goal

pub overflow_add-self : goal.overflow_add-self
overflow_add-self c =
    let first : place_of c.in-Own.name.name.now c.args.self.now.worlds.now ≡ Some c.in-Some.place = sym c.first.ensures ∙ c.in-Some.is in
    let within : c.in-Some.place < length c.args.self.now.worlds.now = place_within c.in-Own.name.name.now c.args.self.now.worlds.now c.in-Some.place first in
    omega (arith, within, c.requires.room)

pub unreachable-requires : goal.unreachable-requires
unreachable-requires c =
    let there = subst (λ (t : Target). IsWorldThere (seen.paths c.args.self.now) (scope_view.target t)) c.in-Own.is c.requires.there in
    let place = named_place c.args.self.now.worlds.now c.in-Own.name.name.now there in
    let none = sym c.in-None.is ∙ c.first.ensures ∙ place.1 in
    cc

pub world_id-requires : goal.world_id-requires
world_id-requires c =
    c.requires.sorts.worlds (owner_asked (view.package_name c.in-Foreign.package) (view.id c.in-Foreign.name) World) c.in-Foreign.name.name.now c.in-Some-get.item c.in-Some-get.ensures.some refl

pub unreachable-requires-in-None-get : goal.unreachable-requires-in-None-get
unreachable-requires-in-None-get c =
    let there = subst (λ (t : Target). IsWorldThere (seen.paths c.args.self.now) (scope_view.target t)) c.in-Foreign.is c.requires.there in
    c.in-None-get.ensures.none (ids.World there.0) there.1
