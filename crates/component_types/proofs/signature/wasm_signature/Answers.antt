use Rattle.std.proofs.Common.{◌≡◌, List, subst, ap, ◌∙◌}
use Rattle.std.proofs.lemmas.Result.{IfOk-weaker}
use Rattle.std.specs.Prelude.{IfOk}
use Rattle.flat_types.specs.Flats.{FlatValue, flats, known_signature}
use Rattle.flat_types.specs.View.{signature_value}
use Rattle.wit_resolution.specs.Graph.{Graph}
use Rattle.wit_reach.specs.Types.{AreTypesBackward}
use Rattle.flat_trees.specs.Flat.{signature}
use Rattle.component_types.proofs.signature.wasm_signature.Goals as goal

pub returns-clause-tree : goal.returns-clause-tree
returns-clause-tree c = λ t has.
    let types = c.args.resolve.now.graph.tables.types in
    let f = c.args.function.now in
    IfOk-weaker c.signature.result (λ s. signature_value s ≡ known_signature (flats types) c.args.variant f.params.items f.result) (λ s. signature_value s ≡ signature c.args.variant t)
    (λ s known. known ∙ c.law_unfolded_functions_are_flat.ensures.signatures types c.args.variant f.params.items f.result t (subst (λ (g : Graph). AreTypesBackward g.tables.types) c.graph.ensures c.law_is_graph.ensures.whole.whole.sound.backward) has)
    (subst (λ (k : List FlatValue). IfOk c.signature.result (λ s. signature_value s ≡ known_signature k c.args.variant f.params.items f.result)) (c.in_ok-types.ensures ∙ ap flats c.types.ensures) c.signature.ensures)
