use Rattle.std.proofs.Common.{ℕ, ◌⊎◌, inl, inr, List, subst}
use Rattle.wit_order.specs.Order.{Has}
use Rattle.wit_reach.proofs.Lists.{item_has, item_more}
use Rattle.wit_graph.specs.Packages.{IsOfOther}
use Rattle.wit_graph.proofs.packages.add_owners.Goals as goal

pub add_owner-requires : goal.add_owner-requires
add_owner-requires c = c.requires c.id-item.result (item_has c.args.ids.now c.loop-id.id-index c.id-item.result c.loop-id-test.true c.id-item.is)

pub loop-id-preserved : goal.loop-id-preserved
loop-id-preserved c =
    let ids : List ℕ = c.args.ids.now in
    let k : ℕ = c.loop-id.id-index in
    let r : ℕ = c.id-item.result in
    let ds = c.args.interfaces.now in
    let own : ℕ = c.args.own in
    let inv = c.loop-id.invariant in
    let e = c.in_ok-add_owner.ensures in
    record {
      was = λ j h. e.was j (inv.was j h);
      new = λ i j h d. elim (item_more ids k r i c.loop-id-test.true c.id-item.is h) as (λ _. Has c.add_owner.new.set.keys j) [
        | inl here ↦ e.new j (subst (λ (z : ℕ). IsOfOther ds own z j) here d)
        | inr earlier ↦ e.was j (inv.new i j earlier d)
      ];
      only = λ j h. elim (e.only j h) as (λ _. Has c.args.set.now.keys j ⊎ ((i : ℕ) × Has ids i × IsOfOther ds own i j)) [
        | inl was ↦ inv.only j was
        | inr new ↦ inr (r, item_has ids k r c.loop-id-test.true c.id-item.is, new)
      ];
    }
