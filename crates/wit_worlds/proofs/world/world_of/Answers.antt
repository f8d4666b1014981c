use Rattle.std.proofs.Common.{◌≡◌, List, Some, subst}
use Rattle.std.specs.Prelude.{slice_get}
use Rattle.wit_types.specs.declared.world.World.{World}
use Rattle.wit_scopes.specs.declared.worlds.Side.TheVariants.{Export}
use Rattle.wit_scopes.specs.View as scope_view
use Rattle.wit_worlds.specs.Worlds.{Entry}
use Rattle.wit_worlds.specs.Making.{IsWorldOf, MakesWorld}
use Rattle.wit_worlds.specs.PathView as seen
use Rattle.wit_worlds.proofs.Outcomes.{if_to}
use Rattle.wit_worlds.proofs.Making.{may_list, side_apart, imports_apart}
use Rattle.wit_worlds.proofs.world.world_of.Goals as goal

pub lists_in-requires : goal.lists_in-requires
lists_in-requires c = may_list (seen.paths c.args.paths.now) (scope_view.world_scope c.args.world.now) c.args.types.now c.args.table.now c.args.left.functions.items c.args.left.labelled.items c.requires

pub world_from-requires-clause-imports : goal.world_from-requires-clause-imports
world_from-requires-clause-imports c =
    let w = scope_view.world_scope c.args.world.now in
    let made = c.in_ok-lists.ensures w.name.text in
    let apart = imports_apart (seen.paths c.args.paths.now) w c.args.types.now c.args.table.now c.args.left.functions.items c.args.left.labelled.items c.requires c.in_ok-imports.imports.items c.in_ok-imports.ensures made.0 made.2.imports_are in
    λ i j e f at_i at_j same. apart i j e f (subst (λ (es : List Entry). slice_get es i ≡ Some e) made.1 at_i) (subst (λ (es : List Entry). slice_get es j ≡ Some f) made.1 at_j) same

pub world_from-requires-clause-exports : goal.world_from-requires-clause-exports
world_from-requires-clause-exports c =
    let w = scope_view.world_scope c.args.world.now in
    let made = c.in_ok-lists.ensures w.name.text in
    side_apart (seen.paths c.args.paths.now) w c.args.types.now c.args.table.now c.args.left.functions.items c.args.left.labelled.items c.requires Export c.in_ok-lists.lists.exports.items made.2.exports_are

pub returns : goal.returns
returns c =
    let w = scope_view.world_scope c.args.world.now in
    let made = c.in_ok-lists.ensures w.name.text in
    let lists = c.in_ok-lists.lists in
    let Q : World → Type 0 = MakesWorld (seen.paths c.args.paths.now) w c.args.types.now c.args.table.now c.args.left.functions.items c.args.left.labelled.items in
    if_to c.world_from.result (IsWorldOf w lists.imports.items lists.exports.items lists.includes.items) Q
    (λ d is. record {
      type_entries = c.in_ok-imports.imports.items;
      other_imports = made.0;
      exports = lists.exports.items;
      includes = lists.includes.items;
      type_entries_are = c.in_ok-imports.ensures;
      lists_are = made.2;
      is = subst (λ (es : List Entry). IsWorldOf w es lists.exports.items lists.includes.items d) made.1 is;
    })
    c.world_from.ensures
