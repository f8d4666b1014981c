use Rattle.std.proofs.Common.{◌≡◌, ◌<◌, ◌++◌, ◌∷◌, [], length, map, take, List, ℕ, append_assoc, sym, ap, ◌∙◌}
use Rattle.std.proofs.Math.Seq.{take-length}
use Rattle.std.proofs.lemmas.List.{length_push}
use Rattle.std.proofs.lemmas.Iterator.Adapters.{YieldsList-from_vec}
use Rattle.std.proofs.lemmas.Iterator.Consumers.{YieldsList-turn, YieldsList-end}
use Rattle.std.specs.Prelude.{flat_map}
use Rattle.wit_syntax.specs.Ast.{GatedTree, FileItemTree}
use Rattle.wit_syntax.specs.AstView as view
use Rattle.wit_scopes.specs.Paths.{item_uses}
use Rattle.wit_scopes.specs.Scopes as spec
use Rattle.wit_scopes.specs.Scopes.{ItemScope}
use Rattle.wit_scopes.specs.View.{AreUses, item_scope}
use Rattle.wit_scopes.proofs.Lists.{flat_map-more}
use Rattle.wit_file_scopes.proofs.scopes.add_items.Goals as goal

pub loop-gated-preserved : goal.loop-gated-preserved
loop-gated-preserved c =
    let items = c.args.items.items in
    let yields = YieldsList-from_vec {s = c.into_iter-gated-iterator.result} items c.into_iter-gated-iterator.ensures.into_iter_gives.0 (c.into_iter-gated-iterator.ensures.into_iter_gives.1 ∙ c.args.items.ok.0) in
    let turn = YieldsList-turn yields c.loop-gated.yielded c.loop-gated.gated-iterator c.loop-gated.yielded_by c.next.result c.next.new.self c.in-Some.gated c.in-Some.is c.next.ensures.steps in
    let me = view.package_name c.args.me in
    let us = item_uses (map (view.gated view.file_item) items) in
    let known : AreUses me us c.in_ok-uses.uses = rw c.as_slice.ensures.value at c.in_ok-uses.ensures in
    let f = λ (g : GatedTree FileItemTree). spec.file_item_scopes me us c.args.number g g.item in
    let before : List ItemScope = map item_scope c.args.found.now.items in
    let first : List ItemScope = flat_map f (map (view.gated view.file_item) (take (length c.loop-gated.yielded) items)) in
    let added : List ItemScope = f (view.gated view.file_item c.in-Some.gated) in
    let goes_on : map item_scope c.add_item.new.found.items ≡ map item_scope c.loop-gated.found.items ++ added = (rw known.package_is at (c.in_ok-add_item.ensures us)) known in
    goes_on ∙ ap (λ ss. ss ++ added) c.loop-gated.invariant ∙ append_assoc before first added
    ∙ ap (λ ss. before ++ ss) (sym (flat_map-more f (view.gated view.file_item) items (length c.loop-gated.yielded) c.in-Some.gated turn.0 turn.1))
    ∙ ap (λ (m : ℕ). before ++ flat_map f (map (view.gated view.file_item) (take m items))) (sym (length_push c.loop-gated.yielded c.in-Some.gated))

pub returns : goal.returns
returns c =
    let items = c.args.items.items in
    let yields = YieldsList-from_vec {s = c.into_iter-gated-iterator.result} items c.into_iter-gated-iterator.ensures.into_iter_gives.0 (c.into_iter-gated-iterator.ensures.into_iter_gives.1 ∙ c.args.items.ok.0) in
    let over = YieldsList-end yields c.loop-gated.yielded c.loop-gated.gated-iterator c.loop-gated.yielded_by c.next.result c.next.new.self c.in-None.is c.next.ensures.steps in
    let all : take (length c.loop-gated.yielded) items ≡ items = rw over.1 (take-length items) in
    let me = view.package_name c.args.me in
    let us = item_uses (map (view.gated view.file_item) items) in
    c.loop-gated.invariant ∙ ap (λ is. map item_scope c.args.found.now.items ++ flat_map (λ (g : GatedTree FileItemTree). spec.file_item_scopes me us c.args.number g g.item) (map (view.gated view.file_item) is)) all
