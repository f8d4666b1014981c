use Rattle.std.proofs.Common.{◌≡◌, ℕ, List, length, map, subst, arith}
use Rattle.wit_scopes.specs.Scopes.{InterfaceScope}
use Rattle.wit_scopes.specs.View as scope_view
use Rattle.wit_rules.proofs.Breaking.{AreKept, all_kept, one_breaks}
use Rattle.wit_arena.specs.Tree.{in_interface}
use Rattle.wit_interfaces.specs.Adding.{MembersBreak}
use Rattle.wit_interfaces.specs.Places.{interfaces_at}
use Rattle.wit_interfaces.proofs.SoFar.{may_bring, ready_next, next_so_far}
use Rattle.wit_interfaces.proofs.Viewing.{interface_stands, interface_there, so_many_interfaces}
use Rattle.wit_interfaces.proofs.building.add_interfaces.Goals as goal

pub interface_at-interface-requires : goal.interface_at-interface-requires
interface_at-interface-requires c = interface_stands (map scope_view.item_scope c.args.scopes.now) c.args.places.now c.requires.places c.loop-place.place-index c.loop-place-test.true

pub add_interface-requires-clause-ready : goal.add_interface-requires-clause-ready
add_interface-requires-clause-ready c =
    let n : ℕ = c.loop-place.place-index in
    let there = interface_there (map scope_view.item_scope c.args.scopes.now) c.args.places.now c.requires.places n c.loop-place-test.true (scope_view.interface_scope c.interface_at-interface.result.now) c.interface_at-interface.ensures in
    let ready = c.requires.ready in
    ready_next c.args.building.now.known c.args.building.now.types c.args.building.now.interfaces (interfaces_at (map scope_view.item_scope c.args.scopes.now) c.args.places.now) n (scope_view.interface_scope c.interface_at-interface.result.now) there
    c.loop-place.building.known c.loop-place.building.types c.loop-place.building.interfaces c.loop-place.invariant.0 ready.0 ready.1 ready.2

pub returns-in-Err-clause-cause : goal.returns-in-Err-clause-cause
returns-in-Err-clause-cause c = λ d may.
    let n : ℕ = c.loop-place.place-index in
    let i : InterfaceScope = scope_view.interface_scope c.interface_at-interface.result.now in
    let there = interface_there (map scope_view.item_scope c.args.scopes.now) c.args.places.now c.requires.places n c.loop-place-test.true (scope_view.interface_scope c.interface_at-interface.result.now) c.interface_at-interface.ensures in
    let bring = may_bring c.args.building.now.known c.args.building.now.types c.args.building.now.interfaces (interfaces_at (map scope_view.item_scope c.args.scopes.now) c.args.places.now) n i there
    c.loop-place.building.known c.loop-place.building.types c.loop-place.building.interfaces c.loop-place.invariant.0 d may in
    one_breaks (λ (j : InterfaceScope). MembersBreak d (in_interface j.name.text) j.members) (interfaces_at (map scope_view.item_scope c.args.scopes.now) c.args.places.now) n i there c.in-Err.fault (c.in-Err.ensures.cause d bring)

pub loop-place-preserved : goal.loop-place-preserved
loop-place-preserved c =
    let n : ℕ = c.loop-place.place-index in
    let i : InterfaceScope = scope_view.interface_scope c.interface_at-interface.result.now in
    let there = interface_there (map scope_view.item_scope c.args.scopes.now) c.args.places.now c.requires.places n c.loop-place-test.true (scope_view.interface_scope c.interface_at-interface.result.now) c.interface_at-interface.ensures in
    let ready = c.requires.ready in
    let next_ready = ready_next c.args.building.now.known c.args.building.now.types c.args.building.now.interfaces (interfaces_at (map scope_view.item_scope c.args.scopes.now) c.args.places.now) n i there
    c.loop-place.building.known c.loop-place.building.types c.loop-place.building.interfaces c.loop-place.invariant.0 ready.0 ready.1 ready.2 in (
      next_so_far c.args.building.now.known c.args.building.now.types c.args.building.now.interfaces (interfaces_at (map scope_view.item_scope c.args.scopes.now) c.args.places.now) n i there
          c.loop-place.building.known c.loop-place.building.types c.loop-place.building.interfaces c.loop-place.invariant.0 ready.1.apart next_ready
          c.add_interface.new.building.known c.add_interface.new.building.types c.add_interface.new.building.interfaces c.in_default.ensures.adds c.in_default.ensures.kept,
      c.in_default.ensures.natures,
    )

pub returns-clause-kept : goal.returns-clause-kept
returns-clause-kept c = λ d may.
    let is : List InterfaceScope = interfaces_at (map scope_view.item_scope c.args.scopes.now) c.args.places.now in
    let size : length is ≡ length c.args.places.now = so_many_interfaces (map scope_view.item_scope c.args.scopes.now) c.args.places.now c.requires.places in
    let end : c.loop-place.place-index ≡ length is = omega (arith, size) in
    all_kept (λ (j : InterfaceScope). MembersBreak d (in_interface j.name.text) j.members) is
    (subst (λ (n : ℕ). AreKept (λ (j : InterfaceScope). MembersBreak d (in_interface j.name.text) j.members) is n) end (c.loop-place.invariant.0.kept d may))
