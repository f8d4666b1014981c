use Rattle.std.proofs.Common.{ℕ, ◌⊎◌, inl, inr, List, subst}
use Rattle.wit_types.specs.Passed.wit_order-Order.{Has}
use Rattle.wit_types.specs.declared.interface.TypeDef.{TypeDef}
use Rattle.wit_reach.specs.Deps.{IsDepOf, AreUsed}
use Rattle.wit_reach.proofs.Lists.{item_has, item_more}
use Rattle.wit_reach.proofs.deps.add_deps.Goals as goal

pub add_dep-requires-clause-there : goal.add_dep-requires-clause-there
add_dep-requires-clause-there c = c.requires.there c.id-item.result (item_has c.args.ids.now c.loop-id.id-index c.id-item.result c.loop-id-test.true c.id-item.is)

pub loop-id-preserved : goal.loop-id-preserved
loop-id-preserved c =
    let ids : List ℕ = c.args.ids.now in
    let k : ℕ = c.loop-id.id-index in
    let r : ℕ = c.id-item.result in
    let ds : List TypeDef = c.args.types.now in
    let now : List ℕ = c.add_dep.new.set.keys in
    let inv = c.loop-id.invariant in
    let e = c.in_ok-add_dep.ensures in
    record {
      was = λ i h. e.was i (inv.was i h);
      new = λ i j h d. elim (item_more ids k r j c.loop-id-test.true c.id-item.is h) as (λ _. Has now i) [
        | inl here ↦ e.new i (subst (λ (z : ℕ). IsDepOf ds z i) here d)
        | inr t ↦ e.was i (inv.new i j t d)
      ];
      only = λ i h. elim (e.only i h) as (λ _. Has c.args.set.now.keys i ⊎ AreUsed ds ids i) [
        | inl was ↦ inv.only i was
        | inr new ↦ inr (r, item_has ids k r c.loop-id-test.true c.id-item.is, new)
      ];
    }
