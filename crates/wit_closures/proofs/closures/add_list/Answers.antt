use Rattle.std.proofs.Common.{◌≡◌, ℕ, ◌⊎◌, inl, inr, List, sym, subst, ◌∙◌}
use Rattle.wit_order.specs.Order.{Has}
use Rattle.wit_order.proofs.Lists.{has_insert, has_inserted}
use Rattle.wit_reach.proofs.Lists.{item_has, item_more}
use Rattle.wit_closures.proofs.closures.add_list.Goals as goal

pub loop-id-preserved : goal.loop-id-preserved
loop-id-preserved c =
    let old : List ℕ = c.loop-id.set.keys in
    let w : List ℕ = c.args.list.now in
    let k : ℕ = c.loop-id.id-index in
    let r : ℕ = c.id-item.result in
    let x : ℕ = c.index.result in
    let e : x ≡ r = c.index.ensures in
    let now : List ℕ = c.insert.new.self.keys in
    let inv = c.loop-id.invariant in
    let adds : (i : ℕ) → (i ≡ x) ⊎ Has old i → Has now i = λ i h. subst (λ (l : List ℕ). Has l i) (sym c.in_ok-insert.ensures.keys) (has_insert old x i h) in
    record {
      was = λ i h. adds i (inr (inv.was i h));
      new = λ i h. elim (item_more w k r i c.loop-id-test.true c.id-item.is h) as (λ _. Has now i) [ inl here ↦ adds i (inl (here ∙ sym e)) | inr t ↦ adds i (inr (inv.new i t)) ];
      only = λ i h. elim (has_inserted old x i (subst (λ (l : List ℕ). Has l i) c.in_ok-insert.ensures.keys h)) as (λ _. Has c.args.set.now.keys i ⊎ Has w i) [
        | inl here ↦ inr (subst (λ (z : ℕ). Has w z) (sym (here ∙ e)) (item_has w k r c.loop-id-test.true c.id-item.is))
        | inr was ↦ inv.only i was
      ];
    }
