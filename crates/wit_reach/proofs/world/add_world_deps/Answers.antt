use Rattle.std.proofs.Common.{◌≡◌, List, ℕ, ◌++◌, ap, ◌∙◌}
use Rattle.wit_reach.specs.Lists.{type_items, item_types}
use Rattle.wit_reach.proofs.Items.{types_there}
use Rattle.wit_reach.proofs.world.add_world_deps.Goals as goal

pub add_deps-requires-clause-there : goal.add_deps-requires-clause-there
add_deps-requires-clause-there c =
    let imports : List ℕ = type_items c.args.world.now.imports.entries in
    let exports : List ℕ = type_items c.args.world.now.exports.entries in
    let e : c.as_slice.result.now ≡ item_types c.args.world.now = c.as_slice.ensures.value ∙ c.in_ok-add_type_items-2.ensures ∙ ap (λ (l : List ℕ). l ++ exports) (c.in_ok-add_type_items.ensures ∙ ap (λ (l : List ℕ). l ++ imports) c.new-ids.ensures.items) in
    types_there c.args.types.now c.args.world.now c.as_slice.result.now e c.requires.there
