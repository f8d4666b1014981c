use Rattle.std.proofs.Common.{List, map, sym, subst}
use Rattle.wit_scopes.specs.declared.scopes.ItemScope.{ItemScope as Scope}
use Rattle.wit_scopes.specs.View as scope_view
use Rattle.wit_placeholders.specs.Passed.wit_foreign-View as asked
use Rattle.wit_package.specs.Places.{AreAt}
use Rattle.wit_package.proofs.Stepping.{sorted_there, set_with, placed_as}
use Rattle.wit_package.proofs.resolve.resolved_in.Goals as goal

pub places_of-requires : goal.places_of-requires
places_of-requires c =
    let there = sorted_there c.requires.0 c.requires.1 c.args.declared.now (map scope_view.item_scope c.args.declared.now.scopes.items) (asked.needs c.args.needs.now) c.args.order.now c.requires.2 in
    (there.0, subst (λ (xs : List Scope). AreAt (map scope_view.item_scope xs) c.args.order.now there.0) (sym c.as_slice.ensures.value) there.1)

pub built-requires : goal.built-requires
built-requires c = (
  c.requires.0,
  c.requires.1,
  (set_with c.requires.0 c.requires.1 c.args.declared.now (map scope_view.item_scope c.args.declared.now.scopes.items) (asked.needs c.args.needs.now) c.args.order.now c.requires.2 c.in_ok-items.items c.in_ok-items.ensures
      c.in_ok-start.start.building.known c.in_ok-start.start.building.types c.in_ok-start.start.building.natures c.in_ok-start.start.building.interfaces c.in_ok-start.start.worlds.names c.in_ok-start.start.worlds.worlds c.in_ok-start.start.spans.items c.in_ok-start.ensures
      c.as_slice-2.result.now c.as_slice-3.result.now
      (placed_as c.as_slice.result.now c.args.declared.now.scopes.items c.as_slice.ensures.value c.args.order.now c.in_ok-places.places.interfaces.items c.as_slice-2.result.now c.in_ok-places.places.worlds.items c.as_slice-3.result.now c.as_slice-2.ensures.value c.as_slice-3.ensures.value c.in_ok-places.ensures)),
)

pub returns-clause-ok : goal.returns-clause-ok
returns-clause-ok c = λ files me checked. c.built.ensures.ok files me (set_with files me c.args.declared.now (map scope_view.item_scope c.args.declared.now.scopes.items) (asked.needs c.args.needs.now) c.args.order.now checked c.in_ok-items.items c.in_ok-items.ensures
    c.in_ok-start.start.building.known c.in_ok-start.start.building.types c.in_ok-start.start.building.natures c.in_ok-start.start.building.interfaces c.in_ok-start.start.worlds.names c.in_ok-start.start.worlds.worlds c.in_ok-start.start.spans.items c.in_ok-start.ensures
    c.as_slice-2.result.now c.as_slice-3.result.now
    (placed_as c.as_slice.result.now c.args.declared.now.scopes.items c.as_slice.ensures.value c.args.order.now c.in_ok-places.places.interfaces.items c.as_slice-2.result.now c.in_ok-places.places.worlds.items c.as_slice-3.result.now c.as_slice-2.ensures.value c.as_slice-3.ensures.value c.in_ok-places.ensures))

pub returns-clause-cause : goal.returns-clause-cause
returns-clause-cause c = λ files me checked. c.built.ensures.cause files me (set_with files me c.args.declared.now (map scope_view.item_scope c.args.declared.now.scopes.items) (asked.needs c.args.needs.now) c.args.order.now checked c.in_ok-items.items c.in_ok-items.ensures
    c.in_ok-start.start.building.known c.in_ok-start.start.building.types c.in_ok-start.start.building.natures c.in_ok-start.start.building.interfaces c.in_ok-start.start.worlds.names c.in_ok-start.start.worlds.worlds c.in_ok-start.start.spans.items c.in_ok-start.ensures
    c.as_slice-2.result.now c.as_slice-3.result.now
    (placed_as c.as_slice.result.now c.args.declared.now.scopes.items c.as_slice.ensures.value c.args.order.now c.in_ok-places.places.interfaces.items c.as_slice-2.result.now c.in_ok-places.places.worlds.items c.as_slice-3.result.now c.as_slice-2.ensures.value c.as_slice-3.ensures.value c.in_ok-places.ensures))
