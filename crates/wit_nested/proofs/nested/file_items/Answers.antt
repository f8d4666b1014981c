use Rattle.std.proofs.Common.{rules, ◌≡◌, List, [], ◌∷◌, map, refl, ap, ◌∙◌}
use Rattle.std.proofs.lemmas.Result.{IfOk-weaker}
use Rattle.std.proofs.lemmas.Iterator.{YieldsList-from_map_by}
use Rattle.std.proofs.lemmas.Iterator.Adapters.{YieldsList-from_vec}
use Rattle.std.proofs.lemmas.Iterator.Consumers.{YieldsList-at, map_from_collect}
use Rattle.wit_scopes.specs.Passed.wit_syntax-AstView as view
use Rattle.wit_nested.specs.Nested as spec
use Rattle.wit_nested.proofs.nested.file_items.Goals as goal

map_of_map : {A B C : Type 0} (f : B → C) (g : A → B) (xs : List A) → map (λ x. f (g x)) xs ≡ map f (map g xs)
map_of_map f g [] = refl
map_of_map f g (x ∷ xs) = ap (λ ys. f (g x) ∷ ys) (map_of_map f g xs)

pub returns : goal.returns
returns c =
    let items = c.args.items.items in
    let yields = YieldsList-from_vec {s = c.into_iter.result} items c.into_iter.ensures.rest (c.into_iter.ensures.len ∙ c.args.items.ok.0) in
    IfOk-weaker c.collect.result
    (λ v. map (view.gated view.file_item) v.items ≡ map (λ g. spec.file_item (view.gated view.ast_item g)) items)
    (λ v. map (view.gated view.file_item) v.items ≡ map spec.file_item (map (view.gated view.ast_item) items))
    (λ v e. e ∙ map_of_map spec.file_item (view.gated view.ast_item) items)
    (map_from_collect c.collect.result c.collect.ensures.ran (YieldsList-from_map_by _ (view.gated view.file_item) (λ g. spec.file_item (view.gated view.ast_item g)) (YieldsList-at c.map.ensures.source yields) c.map.ensures.closure (λ x r q k. search rules)))
