use Rattle.std.proofs.Common.{◌≤◌, length, map, ap, ◌∙◌, arith}
use Rattle.std.specs.Prelude.{filter}
use Rattle.std.proofs.lemmas.List.{take_all}
use Rattle.plain_worlds.specs.World.{function_item}
use Rattle.wit_component.specs.View as view
use Rattle.wit_component.proofs.WrittenLinks.{wanted, wanted_are_needed}
use Rattle.wit_component.proofs.table.needed_functions.Goals as goal

pub returns : goal.returns
returns c =
    let all = c.args.linking.now.world.now.imports.items in
    let ends : length all ≤ c.loop-function.function-index = omega (arith, ap length c.deref-function-items.ensures.value) in
    c.loop-function.invariant
    ∙ ap (λ l. filter (wanted c.args.table.now.legacy c.args.table.now.standard) (map function_item l)) (take_all c.loop-function.function-index all ends)
    ∙ wanted_are_needed (view.linking c.args.linking.now) (view.places c.args.table.now) c.requires
