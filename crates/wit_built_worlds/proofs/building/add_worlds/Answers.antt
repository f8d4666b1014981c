use Rattle.std.proofs.Common.{◌≡◌, ◌+◌, ◌<◌, ◌≤◌, ◌^◌, ℕ, List, length, map, take, sym, subst, ap, ◌∙◌, arith}
use Rattle.std.proofs.lemmas.List.{length-map, length-take-le, take_all}
use Rattle.wit_scopes.specs.Scopes.{WorldScope}
use Rattle.wit_scopes.specs.View as scope_view
use Rattle.wit_rules.proofs.Breaking.{AreKept, all_kept, one_breaks}
use Rattle.wit_interfaces.specs.Passed.wit_package_types-Known.{KnownTypes}
use Rattle.wit_readiness.specs.Passed.wit_foreign-Items.{interfaces_in, worlds_in}
use Rattle.wit_built_worlds.specs.Adding.{WorldBreaks, AreReadyBehind, AddsWorlds}
use Rattle.wit_built_worlds.specs.Places.{worlds_at}
use Rattle.wit_built_worlds.proofs.Ready.{next_ready, numbered}
use Rattle.wit_built_worlds.proofs.SoFar.{none_so_far, may_add_next, next_so_far}
use Rattle.wit_built_worlds.proofs.Viewing.{world_stands, world_there, so_many_worlds}
use Rattle.wit_built_worlds.proofs.building.add_worlds.Goals as goal

pub loop-place-init : goal.loop-place-init
loop-place-init c =
    let old = c.args.building.now in
    record {
      so_far = none_so_far old.known old.types old.interfaces c.args.items.now c.args.built.now.worlds (worlds_at (map scope_view.item_scope c.args.scopes.now) c.args.places.now) c.args.built.now.names c.requires.first.0;
      natures = c.requires.natures;
    }

pub world_at-world-requires : goal.world_at-world-requires
world_at-world-requires c = world_stands (map scope_view.item_scope c.args.scopes.now) c.args.places.now c.requires.places c.loop-place.place-index c.loop-place-test.true

pub add_world-requires-clause-ready : goal.add_world-requires-clause-ready
add_world-requires-clause-ready c =
    let n : ℕ = c.loop-place.place-index in
    let there = world_there (map scope_view.item_scope c.args.scopes.now) c.args.places.now c.requires.places n c.loop-place-test.true (scope_view.world_scope c.world_at-world.result.now) c.world_at-world.ensures in
    let so_far = c.loop-place.invariant.so_far in
    let k = c.loop-place.building.known in
    let behind = subst (λ (z : KnownTypes). AreReadyBehind z c.args.items.now (worlds_at (map scope_view.item_scope c.args.scopes.now) c.args.places.now)) (sym so_far.known) c.requires.ready in
    next_ready k c.args.items.now (worlds_at (map scope_view.item_scope c.args.scopes.now) c.args.places.now) behind n (scope_view.world_scope c.world_at-world.result.now) there c.loop-place.built.names so_far.names_are

pub add_world-requires-clause-numbered : goal.add_world-requires-clause-numbered
add_world-requires-clause-numbered c = λ small.
    let n : ℕ = c.loop-place.place-index in
    let ws : List WorldScope = worlds_at (map scope_view.item_scope c.args.scopes.now) c.args.places.now in
    let items = c.args.items.now in
    let k = c.loop-place.building.known in
    let names = c.loop-place.built.names in
    let so_far = c.loop-place.invariant.so_far in
    let known : length k.names ≡ length c.args.building.now.known.names = ap (λ (z : KnownTypes). length z.names) so_far.known in
    let bound : interfaces_in items + length c.args.building.now.known.names ≤ length c.args.building.now.interfaces = c.requires.interfaces in
    let size : c.len.result ≡ length c.args.building.now.interfaces = c.len.ensures in
    let fits : c.len.result < 2 ^ 64 = c.len.type_inv in
    let all : length ws ≡ length c.args.places.now = so_many_worlds (map scope_view.item_scope c.args.scopes.now) c.args.places.now c.requires.places in
    let inside : n < length c.args.places.now = c.loop-place-test.true in
    let taken_n : length (take n ws) ≡ n = length-take-le n ws (omega (arith, inside, all)) in
    let so_many : length names ≡ n = ap length so_far.names_are ∙ length-map (take n ws) (λ (w : WorldScope). w.name.text) ∙ taken_n in
    let worlds : length c.loop-place.built.worlds ≡ length c.args.built.now.worlds + n = so_far.so_many in
    let first : length c.args.built.now.worlds ≡ worlds_in items = c.requires.first.1 in
    numbered k c.requires.items.0 items c.requires.items.1 names (omega (arith, known, bound, size, fits)) (omega (arith, so_many, worlds, first, small))

pub add_world-requires-clause-natures : goal.add_world-requires-clause-natures
add_world-requires-clause-natures c = c.loop-place.invariant.natures

pub returns-in-Err-clause-cause : goal.returns-in-Err-clause-cause
returns-in-Err-clause-cause c = λ d may.
    let n : ℕ = c.loop-place.place-index in
    let ws : List WorldScope = worlds_at (map scope_view.item_scope c.args.scopes.now) c.args.places.now in
    let old = c.args.building.now in
    let now = c.loop-place.building in
    let w = scope_view.world_scope c.world_at-world.result.now in
    let there = world_there (map scope_view.item_scope c.args.scopes.now) c.args.places.now c.requires.places n c.loop-place-test.true (scope_view.world_scope c.world_at-world.result.now) c.world_at-world.ensures in
    one_breaks (WorldBreaks d) ws n w there c.in-Err.fault
    (c.in-Err.ensures.cause d
    (may_add_next old.known old.types old.interfaces c.args.items.now c.args.built.now.worlds ws c.requires.first.1 n w there now.known now.types now.interfaces c.loop-place.built.names c.loop-place.built.worlds c.loop-place.invariant.so_far d may))

pub loop-place-preserved : goal.loop-place-preserved
loop-place-preserved c =
    let n : ℕ = c.loop-place.place-index in
    let ws : List WorldScope = worlds_at (map scope_view.item_scope c.args.scopes.now) c.args.places.now in
    let old = c.args.building.now in
    let now = c.loop-place.building in
    let new = c.add_world.new in
    let w = scope_view.world_scope c.world_at-world.result.now in
    let there = world_there (map scope_view.item_scope c.args.scopes.now) c.args.places.now c.requires.places n c.loop-place-test.true (scope_view.world_scope c.world_at-world.result.now) c.world_at-world.ensures in
    record {
      so_far = next_so_far old.known old.types old.interfaces c.args.items.now c.args.built.now.worlds ws c.requires.first.1 n w there now.known now.types now.interfaces c.loop-place.built.names c.loop-place.built.worlds c.loop-place.invariant.so_far
          new.building.known new.building.types new.building.interfaces new.worlds.names new.worlds.worlds c.in_default.ensures.known c.in_default.ensures.names c.in_default.ensures.so_many c.in_default.ensures.adds c.in_default.ensures.kept;
      natures = c.in_default.ensures.natures;
    }

pub returns-clause-known : goal.returns-clause-known
returns-clause-known c = c.loop-place.invariant.so_far.known

pub returns-clause-names : goal.returns-clause-names
returns-clause-names c =
    let n : ℕ = c.loop-place.place-index in
    let ws : List WorldScope = worlds_at (map scope_view.item_scope c.args.scopes.now) c.args.places.now in
    let size : length ws ≡ length c.args.places.now = so_many_worlds (map scope_view.item_scope c.args.scopes.now) c.args.places.now c.requires.places in
    let past : length ws ≤ n = omega (arith, size, c.loop-place-test.false) in
    c.loop-place.invariant.so_far.names_are ∙ ap (map (λ (w : WorldScope). w.name.text)) (take_all n ws past)

pub returns-clause-adds : goal.returns-clause-adds
returns-clause-adds c = λ d may.
    let n : ℕ = c.loop-place.place-index in
    let ws : List WorldScope = worlds_at (map scope_view.item_scope c.args.scopes.now) c.args.places.now in
    let old = c.args.building.now in
    let now = c.loop-place.building in
    let size : length ws ≡ length c.args.places.now = so_many_worlds (map scope_view.item_scope c.args.scopes.now) c.args.places.now c.requires.places in
    let past : length ws ≤ n = omega (arith, size, c.loop-place-test.false) in
    subst (λ (vs : List WorldScope). AddsWorlds d old.known old.types old.interfaces c.args.built.now.worlds vs now.types now.interfaces c.loop-place.built.worlds) (take_all n ws past) (c.loop-place.invariant.so_far.adds d may)

pub returns-clause-kept : goal.returns-clause-kept
returns-clause-kept c = λ d may.
    let n : ℕ = c.loop-place.place-index in
    let ws : List WorldScope = worlds_at (map scope_view.item_scope c.args.scopes.now) c.args.places.now in
    let size : length ws ≡ length c.args.places.now = so_many_worlds (map scope_view.item_scope c.args.scopes.now) c.args.places.now c.requires.places in
    let within : n ≤ length c.args.places.now = c.loop-place.auto.place-index-end in
    let end : n ≡ length ws = omega (arith, size, within, c.loop-place-test.false) in
    all_kept (WorldBreaks d) ws (subst (λ (m : ℕ). AreKept (WorldBreaks d) ws m) end (c.loop-place.invariant.so_far.kept d may))
