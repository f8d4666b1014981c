use Rattle.std.proofs.Common.{◌≡◌, ◌<◌, length, Some, refl, sym, subst, ◌∙◌, arith}
use Rattle.name_places.specs.FirstPlaces.{place_of}
use Rattle.name_places.proofs.Places.{place_within}
use Rattle.wit_syntax.specs.AstView as view
use Rattle.wit_scopes.specs.declared.paths.Target.{Target}
use Rattle.wit_scopes.specs.View as scope_view
use Rattle.wit_types.specs.declared.«package».AstItem.TheVariants as ids
use Rattle.wit_foreign.specs.Passed.wit_lookups-declared-asks-Asked-TheVariants.{Interface}
use Rattle.wit_foreign.specs.Items.{owner_asked}
use Rattle.wit_resolved_scopes.proofs.Orders.{named_place}
use Rattle.wit_worlds.specs.Paths.{IsInterfaceThere}
use Rattle.wit_worlds.specs.PathView as seen
use Rattle.wit_worlds.proofs.paths.Paths.interface.Goals as goal

pub overflow_add-self : goal.overflow_add-self
overflow_add-self c =
    let first : place_of c.in-Own.name.name.now c.args.self.now.interfaces.now.names ≡ Some c.in-Some.place = sym c.place.ensures ∙ c.in-Some.is in
    let within : c.in-Some.place < length c.args.self.now.interfaces.now.names = place_within c.in-Own.name.name.now c.args.self.now.interfaces.now.names c.in-Some.place first in
    omega (arith, within, c.requires.room)

pub unreachable-requires : goal.unreachable-requires
unreachable-requires c =
    let there = subst (λ (t : Target). IsInterfaceThere (seen.paths c.args.self.now) (scope_view.target t)) c.in-Own.is c.requires.there in
    let place = named_place c.args.self.now.interfaces.now.names c.in-Own.name.name.now there in
    let none = sym c.in-None.is ∙ c.place.ensures ∙ place.1 in
    cc

pub interface_id-requires : goal.interface_id-requires
interface_id-requires c =
    c.requires.sorts.interfaces (owner_asked (view.package_name c.in-Foreign.package) (view.id c.in-Foreign.name) Interface) c.in-Foreign.name.name.now c.in-Some-get.item c.in-Some-get.ensures.some refl

pub unreachable-requires-in-None-get : goal.unreachable-requires-in-None-get
unreachable-requires-in-None-get c =
    let there = subst (λ (t : Target). IsInterfaceThere (seen.paths c.args.self.now) (scope_view.target t)) c.in-Foreign.is c.requires.there in
    c.in-None-get.ensures.none (ids.Interface there.0) there.1
