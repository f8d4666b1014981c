use Rattle.std.proofs.Common.{ℕ, List, [], ◌∷◌, ◌++◌, sym, subst}
use Rattle.wit_types.specs.declared.function.Function.{Function}
use Rattle.wit_types.specs.declared.world.WorldInclude.{WorldInclude}
use Rattle.wit_scopes.specs.declared.worlds.WorldMember.{WorldMember}
use Rattle.wit_scopes.specs.View as scope_view
use Rattle.wit_worlds.specs.Worlds.{Entry}
use Rattle.wit_worlds.specs.Listing.{AddsMember, adds_type, adds_function, adds_include}
use Rattle.wit_worlds.specs.PathView as seen
use Rattle.wit_worlds.proofs.Adding.{adds_listed}
use Rattle.wit_worlds.proofs.lists.add_member.Goals as goal

pub returns-in_ok-push-in-Member : goal.returns-in_ok-push-in-Member
returns-in_ok-push-in-Member c =
    let ps = seen.paths c.args.paths.now in
    let fs : List Function = c.args.left.now.functions.items in
    let ids : List ℕ = c.args.left.now.labelled.items in
    let imports : List Entry = c.args.lists.now.imports.items in
    let exports : List Entry = c.args.lists.now.exports.items in
    let includes : List WorldInclude = c.args.lists.now.includes.items in
    subst (λ (es : List Entry). AddsMember ps fs ids imports exports includes (scope_view.world_member c.args.member.now) c.take_first.new.left.items ids es exports includes) (sym c.in_ok-push-in-Member.ensures.items)
    (subst (λ (m : WorldMember). AddsMember ps fs ids imports exports includes (scope_view.world_member m) c.take_first.new.left.items ids (imports ++ c.in_ok-entry-in-Member.entry ∷ []) exports includes) (sym c.in-Member.is)
    (adds_function (scope_view.member c.in-Member.member) c.take_first.result c.take_first.new.left.items c.in_ok-entry-in-Member.entry (c.is_function.ensures.yes c.if-is_function.true) c.take_first.ensures c.in_ok-entry-in-Member.ensures))

pub returns-else-is_function : goal.returns-else-is_function
returns-else-is_function c =
    let ps = seen.paths c.args.paths.now in
    let fs : List Function = c.args.left.now.functions.items in
    let ids : List ℕ = c.args.left.now.labelled.items in
    let imports : List Entry = c.args.lists.now.imports.items in
    let exports : List Entry = c.args.lists.now.exports.items in
    let includes : List WorldInclude = c.args.lists.now.includes.items in
    subst (λ (m : WorldMember). AddsMember ps fs ids imports exports includes (scope_view.world_member m) fs ids imports exports includes) (sym c.in-Member.is)
    (adds_type (scope_view.member c.in-Member.member) (c.is_function.ensures.no_function c.if-is_function.false))

pub returns-in_ok-entry-in-Listed : goal.returns-in_ok-entry-in-Listed
returns-in_ok-entry-in-Listed c =
    adds_listed (seen.paths c.args.paths.now) c.args.left.now.functions.items c.args.left.now.labelled.items c.args.lists.now.imports.items c.args.lists.now.exports.items c.args.lists.now.includes.items c.args.member.now c.in-Listed.listed c.in-Listed.is
    c.listed_entry.new.left.functions.items c.listed_entry.new.left.labelled.items c.in_ok-entry-in-Listed.entry c.in_ok-entry-in-Listed.ensures c.add_entry.result c.add_entry.new.lists.imports.items c.add_entry.new.lists.exports.items c.add_entry.new.lists.includes.items
    c.add_entry.ensures.import c.add_entry.ensures.export c.add_entry.ensures.includes

pub returns-in_ok-push-in-Included : goal.returns-in_ok-push-in-Included
returns-in_ok-push-in-Included c =
    let ps = seen.paths c.args.paths.now in
    let fs : List Function = c.args.left.now.functions.items in
    let ids : List ℕ = c.args.left.now.labelled.items in
    let imports : List Entry = c.args.lists.now.imports.items in
    let exports : List Entry = c.args.lists.now.exports.items in
    let includes : List WorldInclude = c.args.lists.now.includes.items in
    subst (λ (ds : List WorldInclude). AddsMember ps fs ids imports exports includes (scope_view.world_member c.args.member.now) fs ids imports exports ds) (sym c.in_ok-push-in-Included.ensures.items)
    (subst (λ (m : WorldMember). AddsMember ps fs ids imports exports includes (scope_view.world_member m) fs ids imports exports (includes ++ c.in_ok-include-in-Included.include ∷ [])) (sym c.in-Included.is)
    (adds_include (scope_view.included c.in-Included.included) c.in_ok-include-in-Included.include c.in_ok-include-in-Included.ensures))
