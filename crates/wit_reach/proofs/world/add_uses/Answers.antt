use Rattle.std.proofs.Common.{◌≡◌, ◌<◌, ◌⊎◌, ℕ, inl, inr, List, sym, subst, ◌∙◌, ap, length, rules}
use Rattle.wit_types.specs.Passed.wit_order-Order.{Has}
use Rattle.wit_types.specs.Passed.wit_order-Places.{row}
use Rattle.wit_types.proofs.Passed.wit_order-Lists.{row_read}
use Rattle.wit_reach.specs.Reach.{Uses}
use Rattle.wit_reach.proofs.Lists.{item_has, item_more}
use Rattle.wit_reach.proofs.world.add_uses.Goals as goal

pub bounds-uses-index : goal.bounds-uses-index
bounds-uses-index c = subst (λ (z : ℕ). z < length c.args.uses.now) (sym c.index.ensures) (c.requires _ (item_has c.args.interfaces.now c.loop-interface.interface-index c.interface-item.result c.loop-interface-test.true c.interface-item.is))

pub offset_bounds-uses-index : goal.offset_bounds-uses-index
offset_bounds-uses-index c =
    let l : c.index.result < length c.args.uses.now = subst (λ (z : ℕ). z < length c.args.uses.now) (sym c.index.ensures) (c.requires _ (item_has c.args.interfaces.now c.loop-interface.interface-index c.interface-item.result c.loop-interface-test.true c.interface-item.is)) in
    search (rules, l)

pub loop-interface-preserved : goal.loop-interface-preserved
loop-interface-preserved c =
    let w : List ℕ = c.args.interfaces.now in
    let k : ℕ = c.loop-interface.interface-index in
    let x : ℕ = c.interface-item.result in
    let g = c.args.uses.now in
    let has : Has w x = item_has w k x c.loop-interface-test.true c.interface-item.is in
    let inv = c.loop-interface.invariant in
    let there : c.index.result < length g = subst (λ (z : ℕ). z < length g) (sym c.index.ensures) (c.requires x has) in
    let e : row g x ≡ c.as_slice.result.now = ap (λ (z : ℕ). row g z) (sym c.index.ensures) ∙ row_read g c.index.result c.index-uses-index.result there c.index-uses-index.is ∙ sym c.as_slice.ensures.value in
    let added = c.in_ok-add_all.ensures in
    record {
      was = λ j h. added.was j (inv.was j h);
      new = λ i j h u. elim (item_more w k x i c.loop-interface-test.true c.interface-item.is h) as (λ _. Has c.add_all.new.set.keys j) [
        | inl same ↦ added.new j (subst (λ (l : List ℕ). Has l j) e (subst (λ (z : ℕ). Uses g z j) same u))
        | inr t ↦ added.was j (inv.new i j t u)
      ];
      only = λ j h. elim (added.only j h) as (λ _. Has c.args.set.now.keys j ⊎ ((i : ℕ) × Has w i × Uses g i j)) [
        | inl was ↦ inv.only j was
        | inr new ↦ inr (x, has, subst (λ (l : List ℕ). Has l j) (sym e) new)
      ];
    }
