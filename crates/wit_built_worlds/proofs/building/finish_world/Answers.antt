use Rattle.std.proofs.Common.{length, sym, subst}
use Rattle.wit_scopes.proofs.Outcomes.{on_ok}
use Rattle.wit_scopes.specs.View as scope_view
use Rattle.wit_interfaces.specs.Passed.wit_package_types-Known.{KnownTypes}
use Rattle.wit_interfaces.proofs.Bringing.{on_any}
use Rattle.wit_worlds.specs.Making.{MayMake, MakesWorld}
use Rattle.wit_built_worlds.specs.Adding.{paths_of}
use Rattle.wit_built_worlds.proofs.Adding.{may_add_labelled, adds_world}
use Rattle.wit_built_worlds.proofs.Making.{may_make}
use Rattle.wit_built_worlds.proofs.building.finish_world.Goals as goal

pub make_world-requires : goal.make_world-requires
make_world-requires c =
    let k = c.args.building.now.known in
    let w = scope_view.world_scope c.args.world.now in
    let scope = c.args.scope in
    let types = c.add_labelled.new.building.types in
    subst (λ (z : KnownTypes). MayMake (paths_of z c.args.items.now c.args.worlds.now.names) w types scope.table scope.functions.items c.in-Ok.labelled.items) (sym c.in-Ok.ensures.known)
    (may_make k (paths_of k c.args.items.now c.args.worlds.now.names) w c.requires.ready c.requires.numbered (length c.args.worlds.now.worlds) c.requires.scope.0 c.args.building.now.types scope.table scope.functions.items c.requires.scope.1
    types c.in-Ok.ensures.grown c.in-Ok.labelled.items c.in-Ok.ensures.so_many)

pub returns-in_ok-made-in-Ok-clause-adds : goal.returns-in_ok-made-in-Ok-clause-adds
returns-in_ok-made-in-Ok-clause-adds c = λ d a r may.
    let k = c.args.building.now.known in
    let w = scope_view.world_scope c.args.world.now in
    let scope = c.args.scope in
    let new = c.add_labelled.new.building in
    let ps = paths_of k c.args.items.now c.args.worlds.now.names in
    let interfaces = c.args.building.now.interfaces in
    let worlds = c.args.worlds.now.worlds in
    let made = c.in_ok-made-in-Ok.made in
    let texts = c.in-Ok.ensures.adds d (may_add_labelled d k a interfaces worlds ps w may c.args.building.now.types scope.table scope.functions.items r) in
    let makes : MakesWorld ps w new.types scope.table scope.functions.items c.in-Ok.labelled.items made =
    subst (λ (z : KnownTypes). MakesWorld (paths_of z c.args.items.now c.args.worlds.now.names) w new.types scope.table scope.functions.items c.in-Ok.labelled.items made) c.in-Ok.ensures.known c.in_ok-made-in-Ok.ensures in
    on_ok c.keep_world.result
    (λ behind. adds_world d k a interfaces worlds ps w may c.args.building.now.types scope.table scope.functions.items r new.types new.interfaces c.in-Ok.labelled.items texts made makes c.keep_world.new.worlds.worlds behind)
    c.keep_world.ensures.behind

pub returns-in_ok-made-in-Ok-clause-kept : goal.returns-in_ok-made-in-Ok-clause-kept
returns-in_ok-made-in-Ok-clause-kept c = λ d may. on_any c.keep_world.result (c.in-Ok.ensures.kept d may)
