use Rattle.std.proofs.Common.{◌≡◌, ℕ, ◌∙◌, ◌∷◌, ◌++◌, [], List, sym, subst, ap, take, ◌+◌}
use Rattle.std.proofs.lemmas.List.{take_more}
use Rattle.wit_reach.specs.Needed.{AreSorted}
use Rattle.wit_reach.proofs.Lists.{item_has, rising_before}
use Rattle.wit_reach.proofs.Sorting.{sorted_more}
use Rattle.wit_reach.proofs.needed.by_interface.Goals as goal

pub put-requires-clause-there : goal.put-requires-clause-there
put-requires-clause-there c = c.requires.there c.id-item.result (item_has c.args.order.now c.loop-id.id-index c.id-item.result c.loop-id-test.true c.id-item.is)

pub loop-id-preserved : goal.loop-id-preserved
loop-id-preserved c =
    let order : List ℕ = c.args.order.now in
    let k : ℕ = c.loop-id.id-index in
    let r : ℕ = c.id-item.result in
    let inv = c.loop-id.invariant in
    let put = c.in_ok-put.ensures in
    let done : take (k + 1) order ≡ take k order ++ r ∷ [] = take_more order k r c.loop-id-test.true ∙ ap (λ (z : ℕ). take k order ++ z ∷ []) (sym c.id-item.is) in
    record {
      size = put.size ∙ inv.size;
      sorted = subst (λ (l : List ℕ). AreSorted c.args.types.now l c.put.new.of.items) (sym done)
          (sorted_more c.args.types.now (take k order) r c.loop-id.of.items c.put.new.of.items put.own put.others
          (λ y h. rising_before order k r y c.requires.rising c.loop-id-test.true c.id-item.is h) inv.sorted);
    }
