use Rattle.std.proofs.Common.{◌≡◌, length, map, ap, ◌∙◌, arith}
use Rattle.std.proofs.lemmas.List.{length-map}
use Rattle.wit_scopes.proofs.Outcomes.{if_err, on_ok}
use Rattle.wit_scopes.specs.Scopes.{InterfaceScope}
use Rattle.wit_scopes.specs.View as scope_view
use Rattle.wit_rules.specs.Breaks.{IsFaultOf}
use Rattle.wit_built_worlds.specs.Passed.wit_interfaces-Places.{interfaces_at}
use Rattle.wit_built_worlds.proofs.Passed.wit_interfaces-Viewing.{so_many_interfaces}
use Rattle.wit_built_worlds.specs.Adding.{WorldsBreak}
use Rattle.wit_built_worlds.specs.Places.{worlds_at}
use Rattle.wit_package.specs.Built.{ItemsBreak}
use Rattle.wit_package.proofs.Building.{ready_behind}
use Rattle.wit_package.proofs.Lawful.{built_in_two_steps}
use Rattle.wit_package.proofs.build.build.Goals as goal

pub add_interfaces-requires-clause-ready : goal.add_interfaces-requires-clause-ready
add_interfaces-requires-clause-ready c = (c.requires.ready.others, c.requires.ready.interfaces, c.requires.ready.types)

pub add_worlds-requires-clause-ready : goal.add_worlds-requires-clause-ready
add_worlds-requires-clause-ready c =
    ready_behind c.args.building.now.known c.add_interfaces.new.building.known c.args.items.now (interfaces_at (map scope_view.item_scope c.args.scopes.now) c.args.interfaces.now) (worlds_at (map scope_view.item_scope c.args.scopes.now) c.args.worlds.now) c.requires.ready
    c.in-Ok.ensures.knows.0 c.in-Ok.ensures.knows.1

pub add_worlds-requires-clause-interfaces : goal.add_worlds-requires-clause-interfaces
add_worlds-requires-clause-interfaces c =
    let names : length c.add_interfaces.new.building.known.names ≡ length (interfaces_at (map scope_view.item_scope c.args.scopes.now) c.args.interfaces.now) = ap length c.in-Ok.ensures.knows.0.names ∙ length-map (interfaces_at (map scope_view.item_scope c.args.scopes.now) c.args.interfaces.now) (λ (i : InterfaceScope). i.name.text) in
    let many : length (interfaces_at (map scope_view.item_scope c.args.scopes.now) c.args.interfaces.now) ≡ length c.args.interfaces.now = so_many_interfaces (map scope_view.item_scope c.args.scopes.now) c.args.interfaces.now c.requires.interface_places in
    omega (arith, c.requires.interfaces, c.in-Ok.ensures.so_many)

pub returns-in-Ok-clause-builds : goal.returns-in-Ok-clause-builds
returns-in-Ok-clause-builds c = λ d may.
    let old = c.args.building.now in
    let new = c.add_interfaces.new.building in
    let is = interfaces_at (map scope_view.item_scope c.args.scopes.now) c.args.interfaces.now in
    let ws = worlds_at (map scope_view.item_scope c.args.scopes.now) c.args.worlds.now in
    let steps = built_in_two_steps d old.known old.types old.interfaces c.args.items.now c.args.built.now.worlds is ws c.requires.interfaces c.requires.ready may in
    let adds = c.in-Ok.ensures.adds d steps.may_add in
    on_ok c.add_worlds.result
    (λ more. steps.builds new.known new.known new.types c.add_worlds.new.building.types new.interfaces c.add_worlds.new.building.interfaces c.add_worlds.new.built.worlds c.in-Ok.ensures.knows.0 adds more)
    (c.add_worlds.ensures.adds d (steps.may_add_worlds new.known new.types new.interfaces c.in-Ok.ensures.knows.0 adds))

pub returns-in-Ok-clause-kept : goal.returns-in-Ok-clause-kept
returns-in-Ok-clause-kept c = λ d may.
    let old = c.args.building.now in
    let new = c.add_interfaces.new.building in
    let is = interfaces_at (map scope_view.item_scope c.args.scopes.now) c.args.interfaces.now in
    let ws = worlds_at (map scope_view.item_scope c.args.scopes.now) c.args.worlds.now in
    let steps = built_in_two_steps d old.known old.types old.interfaces c.args.items.now c.args.built.now.worlds is ws c.requires.interfaces c.requires.ready may in
    let adds = c.in-Ok.ensures.adds d steps.may_add in
    on_ok c.add_worlds.result (steps.kept (c.in-Ok.ensures.kept d steps.may_add))
    (c.add_worlds.ensures.kept d (steps.may_add_worlds new.known new.types new.interfaces c.in-Ok.ensures.knows.0 adds))

pub returns-in-Ok-clause-cause : goal.returns-in-Ok-clause-cause
returns-in-Ok-clause-cause c = λ d may.
    let old = c.args.building.now in
    let new = c.add_interfaces.new.building in
    let is = interfaces_at (map scope_view.item_scope c.args.scopes.now) c.args.interfaces.now in
    let ws = worlds_at (map scope_view.item_scope c.args.scopes.now) c.args.worlds.now in
    let steps = built_in_two_steps d old.known old.types old.interfaces c.args.items.now c.args.built.now.worlds is ws c.requires.interfaces c.requires.ready may in
    let adds = c.in-Ok.ensures.adds d steps.may_add in
    if_err c.add_worlds.result (IsFaultOf (WorldsBreak d ws)) (IsFaultOf (ItemsBreak d is ws)) steps.by_worlds
    (c.add_worlds.ensures.cause d (steps.may_add_worlds new.known new.types new.interfaces c.in-Ok.ensures.knows.0 adds))

pub returns-in-Err-clause-cause : goal.returns-in-Err-clause-cause
returns-in-Err-clause-cause c = λ d may.
    let old = c.args.building.now in
    let is = interfaces_at (map scope_view.item_scope c.args.scopes.now) c.args.interfaces.now in
    let ws = worlds_at (map scope_view.item_scope c.args.scopes.now) c.args.worlds.now in
    let steps = built_in_two_steps d old.known old.types old.interfaces c.args.items.now c.args.built.now.worlds is ws c.requires.interfaces c.requires.ready may in
    steps.by_interfaces c.in-Err.fault (c.in-Err.ensures.cause d steps.may_add)
