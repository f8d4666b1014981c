use Rattle.std.proofs.Common.{List, [], ◌+◌, take, sym, subst}
use Rattle.wit_types.specs.declared.interface.TypeDef.{TypeDef}
use Rattle.wit_rules.specs.Passed.wit_scopes-View as scope_view
use Rattle.wit_arena.specs.Table.{Entries}
use Rattle.wit_package_types.specs.Fill.{Fills, fills_none}
use Rattle.wit_package_types.proofs.Filling.{next_found, next_gates, next_new, next_filled}
use Rattle.wit_package_types.proofs.fill.fill_types.Goals as goal

pub define_type-requires-clause-found : goal.define_type-requires-clause-found
define_type-requires-clause-found c = next_found c.args.known.now c.args.owner c.args.types.now c.args.members.now c.requires c.loop-member.member-index c.member-item.result c.loop-member-test.true c.member-item.is c.loop-member.types c.loop-member.table c.loop-member.invariant

pub define_type-requires-clause-gates : goal.define_type-requires-clause-gates
define_type-requires-clause-gates c = next_gates c.args.known.now c.args.owner c.args.types.now c.args.members.now c.requires c.loop-member.member-index c.member-item.result c.loop-member-test.true c.member-item.is c.loop-member.types c.loop-member.table c.loop-member.invariant

pub loop-member-init : goal.loop-member-init
loop-member-init c =
    let first : Fills c.args.known.now c.args.owner c.args.types.now [] c.args.types.now c.in_ok-table.table =
    subst (λ (t : Entries). Fills c.args.known.now c.args.owner c.args.types.now [] c.args.types.now t) (sym c.in_ok-table.ensures.none) fills_none in
    subst (λ (a : List TypeDef). Fills c.args.known.now c.args.owner c.args.types.now [] a c.in_ok-table.table) (sym c.table_with_room.ensures.kept) first

pub add-requires : goal.add-requires
add-requires c = next_new c.args.known.now c.args.owner c.args.types.now c.args.members.now c.requires c.loop-member.member-index c.member-item.result c.loop-member-test.true c.member-item.is c.loop-member.types c.loop-member.table c.loop-member.invariant

pub loop-member-preserved : goal.loop-member-preserved
loop-member-preserved c =
    subst (λ (t : Entries). Fills c.args.known.now c.args.owner c.args.types.now (take (c.loop-member.member-index + 1) (scope_view.members c.args.members.now)) c.define_type.new.types t) (sym c.in_ok-add.ensures.ok)
    (next_filled c.args.known.now c.args.owner c.args.types.now c.args.members.now c.requires c.loop-member.member-index c.member-item.result c.loop-member-test.true c.member-item.is c.loop-member.types c.loop-member.table c.loop-member.invariant c.define_type.new.types
    c.in_ok-id.id c.in_ok-id.ensures)
