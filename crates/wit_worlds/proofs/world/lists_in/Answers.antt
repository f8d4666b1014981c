use Rattle.std.proofs.Common.{◌≡◌, List, [], ◌++◌, length, map, sym, subst, ap, ◌∙◌}
use Rattle.std.specs.Prelude.{IfOk, flat_map}
use Rattle.wit_scopes.specs.declared.worlds.WorldMember.{WorldMember}
use Rattle.wit_scopes.specs.View as scope_view
use Rattle.wit_resolved_scopes.specs.Texts.{member_texts}
use Rattle.wit_worlds.specs.Worlds.{Entry}
use Rattle.wit_worlds.specs.Listing.{AreListsMade}
use Rattle.wit_worlds.specs.PathView as seen
use Rattle.wit_worlds.proofs.Listed.{texts_length}
use Rattle.wit_worlds.proofs.world.lists_in.Goals as goal

pub lists_of-requires-clause-labelled : goal.lists_of-requires-clause-labelled
lists_of-requires-clause-labelled c =
    c.requires.labelled ∙ texts_length c.args.world.now.name.name.now [] (map scope_view.world_member c.args.world.now.members.items)
    ∙ ap (λ (xs : List WorldMember). length (flat_map (member_texts []) (map scope_view.world_member xs))) (sym c.as_slice.ensures.value)

pub returns : goal.returns
returns c = λ w.
    subst (λ (xs : List WorldMember). IfOk c.lists_of.result (λ lists. (others : List Entry) × (lists.imports.items ≡ c.args.imports.items ++ others) × AreListsMade (seen.paths c.args.paths.now) w (map scope_view.world_member xs) c.args.left.functions.items c.args.left.labelled.items others lists.exports.items lists.includes.items))
    c.as_slice.ensures.value (c.lists_of.ensures w)
