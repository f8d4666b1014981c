use Rattle.std.proofs.Common.{List, ℕ, map, sym, subst}
use Rattle.wit_scopes.specs.Scopes.{ItemScope}
use Rattle.wit_scopes.specs.declared.scopes.ItemScope.{ItemScope as Scope}
use Rattle.wit_scopes.specs.View as scope_view
use Rattle.wit_rules.specs.Breaks.{IsKept, IsFaultOf}
use Rattle.wit_placeholders.specs.Passed.wit_foreign-View as asked
use Rattle.wit_built_worlds.specs.Passed.wit_interfaces-Places.{interfaces_at, AreInterfacePlaces}
use Rattle.wit_built_worlds.specs.Places.{worlds_at, AreWorldPlaces}
use Rattle.wit_package.specs.Built.{AreReadyTogether, MayBuild, Builds, ItemsBreak}
use Rattle.wit_package.specs.Resolved.{context_of}
use Rattle.wit_package.proofs.Stepping.{ready, may_build, scope_refused, resolved_in, gates_there, own_read, others_read}
use Rattle.wit_package.proofs.resolve.built.Goals as goal

pub build-requires-clause-interface_places : goal.build-requires-clause-interface_places
build-requires-clause-interface_places c = subst (λ (ss : List Scope). AreInterfacePlaces (map scope_view.item_scope ss) c.args.interfaces.now) (sym c.as_slice.ensures.value) c.requires.2.places.interface_places

pub build-requires-clause-world_places : goal.build-requires-clause-world_places
build-requires-clause-world_places c = subst (λ (ss : List Scope). AreWorldPlaces (map scope_view.item_scope ss) c.args.own_worlds.now) (sym c.as_slice.ensures.value) c.requires.2.places.world_places

pub build-requires-clause-ready : goal.build-requires-clause-ready
build-requires-clause-ready c =
    subst (λ (ss : List Scope). AreReadyTogether c.args.start.building.known c.args.items.now (interfaces_at (map scope_view.item_scope ss) c.args.interfaces.now) (worlds_at (map scope_view.item_scope ss) c.args.own_worlds.now)) (sym c.as_slice.ensures.value)
    (ready c.requires.0 c.requires.1 c.args.declared.now (map scope_view.item_scope c.args.declared.now.scopes.items) (asked.needs c.args.needs.now) c.args.items.now c.args.start.building.known c.args.start.building.types c.args.start.building.natures c.args.start.building.interfaces c.args.start.worlds.names c.args.start.worlds.worlds c.args.start.spans.items c.args.interfaces.now c.args.own_worlds.now c.requires.2)

pub package_of-requires-clause-version : goal.package_of-requires-clause-version
package_of-requires-clause-version c = own_read c.requires.0 c.requires.1 c.args.declared.now (map scope_view.item_scope c.args.declared.now.scopes.items) (asked.needs c.args.needs.now) c.requires.2.order c.requires.2.checked

pub package_of-requires-clause-there : goal.package_of-requires-clause-there
package_of-requires-clause-there c = c.requires.2.items_are.there

pub package_of-requires-clause-gates : goal.package_of-requires-clause-gates
package_of-requires-clause-gates c = gates_there c.requires.0 c.requires.1 c.args.declared.now (map scope_view.item_scope c.args.declared.now.scopes.items) (asked.needs c.args.needs.now) c.requires.2.order c.requires.2.checked

pub package_of-requires-clause-versions : goal.package_of-requires-clause-versions
package_of-requires-clause-versions c = others_read c.requires.0 c.requires.1 c.args.declared.now (map scope_view.item_scope c.args.declared.now.scopes.items) (asked.needs c.args.needs.now) c.requires.2.order c.requires.2.checked

pub returns-in_ok-package_of-in-Ok-clause-ok : goal.returns-in_ok-package_of-in-Ok-clause-ok
returns-in_ok-package_of-in-Ok-clause-ok c = λ files me set.
    let d = c.args.declared.now in
    let ss : List ItemScope = map scope_view.item_scope d.scopes.items in
    let needs = asked.needs c.args.needs.now in
    let old = c.args.start.building in
    let is : List ℕ = c.args.interfaces.now in
    let ws : List ℕ = c.args.own_worlds.now in
    let e = c.as_slice.ensures.value in
    let ctx = context_of me files c.args.items.now set.sorted in
    let may =
    subst (λ (xs : List Scope). MayBuild ctx old.known old.types old.interfaces c.args.items.now c.args.start.worlds.worlds (interfaces_at (map scope_view.item_scope xs) is) (worlds_at (map scope_view.item_scope xs) ws)) (sym e)
    (may_build files me d ss needs c.args.items.now old.known old.types old.natures old.interfaces c.args.start.worlds.names c.args.start.worlds.worlds c.args.start.spans.items is ws set) in
    let new = c.build.new in
    let builds =
    subst (λ (xs : List Scope). Builds ctx old.types old.interfaces c.args.start.worlds.worlds (interfaces_at (map scope_view.item_scope xs) is) (worlds_at (map scope_view.item_scope xs) ws) new.building.types new.building.interfaces new.built.worlds) e
    (c.in-Ok.ensures.builds ctx may) in
    let kept = subst (λ (xs : List Scope). IsKept (ItemsBreak ctx (interfaces_at (map scope_view.item_scope xs) is) (worlds_at (map scope_view.item_scope xs) ws))) e (c.in-Ok.ensures.kept ctx may) in
    resolved_in files me d ss needs c.args.items.now old.known old.types old.natures old.interfaces c.args.start.worlds.names c.args.start.worlds.worlds c.args.start.spans.items is ws set
    new.building.types new.building.interfaces new.built.worlds c.in_ok-package_of-in-Ok.field-0 builds kept c.in_ok-package_of-in-Ok.ensures

pub returns-in-Err-clause-cause : goal.returns-in-Err-clause-cause
returns-in-Err-clause-cause c = λ files me set.
    let d = c.args.declared.now in
    let ss : List ItemScope = map scope_view.item_scope d.scopes.items in
    let needs = asked.needs c.args.needs.now in
    let old = c.args.start.building in
    let is : List ℕ = c.args.interfaces.now in
    let ws : List ℕ = c.args.own_worlds.now in
    let e = c.as_slice.ensures.value in
    let ctx = context_of me files c.args.items.now set.sorted in
    let may =
    subst (λ (xs : List Scope). MayBuild ctx old.known old.types old.interfaces c.args.items.now c.args.start.worlds.worlds (interfaces_at (map scope_view.item_scope xs) is) (worlds_at (map scope_view.item_scope xs) ws)) (sym e)
    (may_build files me d ss needs c.args.items.now old.known old.types old.natures old.interfaces c.args.start.worlds.names c.args.start.worlds.worlds c.args.start.spans.items is ws set) in
    scope_refused files me d ss needs c.args.items.now old.known old.types old.natures old.interfaces c.args.start.worlds.names c.args.start.worlds.worlds c.args.start.spans.items is ws set c.in-Err.fault
    (subst (λ (xs : List Scope). IsFaultOf (ItemsBreak ctx (interfaces_at (map scope_view.item_scope xs) is) (worlds_at (map scope_view.item_scope xs) ws)) c.in-Err.fault) e (c.in-Err.ensures.cause ctx may))
