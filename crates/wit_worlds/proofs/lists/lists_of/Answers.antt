use Rattle.std.proofs.Common.{◌≡◌, ℕ, List, length, map, ap, ◌∙◌, arith}
use Rattle.wit_scopes.specs.Scopes.{WorldMemberTree}
use Rattle.wit_scopes.specs.View as scope_view
use Rattle.wit_worlds.specs.PathView as seen
use Rattle.wit_worlds.proofs.Listed.{functions_are, listable, next_so_far, all_listed}
use Rattle.wit_worlds.proofs.Viewing.{member_at, so_many_members}
use Rattle.wit_worlds.proofs.lists.lists_of.Goals as goal

pub add_member-requires-clause-listable : goal.add_member-requires-clause-listable
add_member-requires-clause-listable c =
    let ps = seen.paths c.args.paths.now in
    let ms : List WorldMemberTree = map scope_view.world_member c.args.members.now in
    let n : ℕ = c.loop-member.member-index in
    let there = member_at c.args.members.now n c.member-item.result c.loop-member-test.true c.member-item.is in
    listable ps ms c.args.left.functions.items c.args.left.labelled.items c.args.imports.items n (scope_view.world_member c.member-item.result) there c.loop-member.left.functions.items c.loop-member.left.labelled.items c.loop-member.lists.imports.items
    c.loop-member.lists.exports.items c.loop-member.lists.includes.items c.loop-member.invariant (c.requires.functions ∙ ap length (functions_are ms)) c.requires.labelled (c.requires.listable (scope_view.world_member c.member-item.result) (n, there))

pub loop-member-preserved : goal.loop-member-preserved
loop-member-preserved c =
    let ps = seen.paths c.args.paths.now in
    let ms : List WorldMemberTree = map scope_view.world_member c.args.members.now in
    let n : ℕ = c.loop-member.member-index in
    let there = member_at c.args.members.now n c.member-item.result c.loop-member-test.true c.member-item.is in
    next_so_far ps ms c.args.left.functions.items c.args.left.labelled.items c.args.imports.items n (scope_view.world_member c.member-item.result) c.loop-member.left.functions.items c.loop-member.left.labelled.items c.loop-member.lists.imports.items
    c.loop-member.lists.exports.items c.loop-member.lists.includes.items c.add_member.new.left.functions.items c.add_member.new.left.labelled.items c.add_member.new.lists.imports.items c.add_member.new.lists.exports.items c.add_member.new.lists.includes.items there
    c.loop-member.invariant c.in_ok-add_member.ensures

pub returns : goal.returns
returns c = λ w.
    let ps = seen.paths c.args.paths.now in
    let ms : List WorldMemberTree = map scope_view.world_member c.args.members.now in
    let size : length ms ≡ length c.args.members.now = so_many_members c.args.members.now in
    let end : c.loop-member.member-index ≡ length ms = omega (arith, size) in
    all_listed ps ms c.args.left.functions.items c.args.left.labelled.items c.args.imports.items c.loop-member.member-index end c.loop-member.left.functions.items c.loop-member.left.labelled.items c.loop-member.lists.imports.items c.loop-member.lists.exports.items
    c.loop-member.lists.includes.items c.loop-member.invariant w
