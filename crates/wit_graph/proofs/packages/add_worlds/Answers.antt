use Rattle.std.proofs.Common.{ℕ, ◌⊎◌, inl, inr, List, subst}
use Rattle.wit_order.specs.Order.{Has}
use Rattle.wit_reach.proofs.Lists.{item_has, item_more}
use Rattle.wit_graph.specs.Packages.{IsNamedByWorld}
use Rattle.wit_graph.proofs.packages.add_worlds.Goals as goal

pub add_world-requires-clause-there : goal.add_world-requires-clause-there
add_world-requires-clause-there c = c.requires.there c.id-item.result (item_has c.args.ids.now c.loop-id.id-index c.id-item.result c.loop-id-test.true c.id-item.is)

pub loop-id-preserved : goal.loop-id-preserved
loop-id-preserved c =
    let ids : List ℕ = c.args.ids.now in
    let k : ℕ = c.loop-id.id-index in
    let r : ℕ = c.id-item.result in
    let t = c.args.tables.now in
    let inv = c.loop-id.invariant in
    let e = c.in_ok-add_world.ensures in
    record {
      was = λ j h. e.was j (inv.was j h);
      new = λ i j h d. elim (item_more ids k r i c.loop-id-test.true c.id-item.is h) as (λ _. Has c.add_world.new.set.keys j) [
        | inl here ↦ e.new j (subst (λ (z : ℕ). IsNamedByWorld t z j) here d)
        | inr earlier ↦ e.was j (inv.new i j earlier d)
      ];
      only = λ j h. elim (e.only j h) as (λ _. Has c.args.set.now.keys j ⊎ ((i : ℕ) × Has ids i × IsNamedByWorld t i j)) [
        | inl was ↦ inv.only j was
        | inr new ↦ inr (r, item_has ids k r c.loop-id-test.true c.id-item.is, new)
      ];
    }
