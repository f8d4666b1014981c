use Rattle.std.proofs.Common.{◌≡◌, ◌+◌, ◌++◌, ℕ, length, List, map, take, append_assoc, sym, ap, ◌∙◌}
use Rattle.std.proofs.Math.Seq.{take-length}
use Rattle.std.proofs.lemmas.List.{length_push}
use Rattle.std.proofs.lemmas.Iterator.Adapters.{YieldsList-from_vec}
use Rattle.std.proofs.lemmas.Iterator.Consumers.{YieldsList-turn, YieldsList-end}
use Rattle.std.specs.Prelude.{flat_map}
use Rattle.wit_scopes.specs.Passed.wit_syntax-Ast.{GatedTree, FileItemTree, FileTree}
use Rattle.wit_scopes.specs.Passed.wit_syntax-AstView as view
use Rattle.wit_scopes.proofs.Lists.{flat_map-more}
use Rattle.wit_nested.specs.Nested as spec
use Rattle.wit_nested.proofs.nested.own_items.Goals as goal

pub loop-gated-preserved : goal.loop-gated-preserved
loop-gated-preserved c =
    let items = c.args.items.items in
    let yields = YieldsList-from_vec {s = c.into_iter-gated-iterator.result} items c.into_iter-gated-iterator.ensures.into_iter_gives.0 (c.into_iter-gated-iterator.ensures.into_iter_gives.1 ∙ c.args.items.ok.0) in
    let turn = YieldsList-turn yields c.loop-gated.yielded c.loop-gated.gated-iterator c.loop-gated.yielded_by c.next.result c.next.new.self c.in-Some.gated c.in-Some.is c.next.ensures.steps in
    let seen = view.gated view.file_item in
    let n = length c.loop-gated.yielded in
    let one : GatedTree FileItemTree = seen c.in-Some.gated in
    let before : List FileTree = map view.file c.args.nested.now.items in
    let first : List FileTree = flat_map spec.nested_item (map seen (take n items)) in (
      c.in_ok-add_item.ensures.own ∙ ap (λ (gs : List (GatedTree FileItemTree)). gs ++ spec.own_item one) c.loop-gated.invariant.0
          ∙ sym (flat_map-more spec.own_item seen items n c.in-Some.gated turn.0 turn.1) ∙ ap (λ (m : ℕ). flat_map spec.own_item (map seen (take m items))) (sym (length_push c.loop-gated.yielded c.in-Some.gated)),
      c.in_ok-add_item.ensures.nested ∙ ap (λ (fs : List FileTree). fs ++ spec.nested_item one) c.loop-gated.invariant.1 ∙ append_assoc before first (spec.nested_item one)
          ∙ ap (λ (fs : List FileTree). before ++ fs) (sym (flat_map-more spec.nested_item seen items n c.in-Some.gated turn.0 turn.1))
          ∙ ap (λ (m : ℕ). before ++ flat_map spec.nested_item (map seen (take m items))) (sym (length_push c.loop-gated.yielded c.in-Some.gated)),
    )
