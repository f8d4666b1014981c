use Rattle.std.proofs.Common.{◌≡◌, ◌<◌, ℕ, inl, inr, List, sym, subst, ◌∙◌, ap, length, rules}
use Rattle.wit_types.specs.Passed.wit_order-Order.{Has}
use Rattle.wit_types.specs.Passed.wit_order-Places.{row}
use Rattle.wit_types.proofs.Passed.wit_order-Lists.{row_read}
use Rattle.wit_reach.specs.Reach.{Uses, IsNeededOutside}
use Rattle.wit_reach.proofs.Lists.{item_has, item_more}
use Rattle.wit_reach.proofs.reach.needed_outside.Goals as goal

pub bounds-uses-index : goal.bounds-uses-index
bounds-uses-index c = subst (λ (z : ℕ). z < length c.args.uses.now) (sym c.index.ensures) (c.requires.there _ (item_has c.args.exports.now c.loop-export.export-index c.export-item.result c.loop-export-test.true c.export-item.is))

pub offset_bounds-uses-index : goal.offset_bounds-uses-index
offset_bounds-uses-index c =
    let l : c.index.result < length c.args.uses.now = subst (λ (z : ℕ). z < length c.args.uses.now) (sym c.index.ensures) (c.requires.there _ (item_has c.args.exports.now c.loop-export.export-index c.export-item.result c.loop-export-test.true c.export-item.is)) in
    search (rules, l)

pub loop-export-preserved : goal.loop-export-preserved
loop-export-preserved c =
    let w : List ℕ = c.args.exports.now in
    let k : ℕ = c.loop-export.export-index in
    let x : ℕ = c.export-item.result in
    let g = c.args.uses.now in
    let has : Has w x = item_has w k x c.loop-export-test.true c.export-item.is in
    let inv = c.loop-export.invariant in
    let there : c.index.result < length g = subst (λ (z : ℕ). z < length g) (sym c.index.ensures) (c.requires.there x has) in
    let e : row g x ≡ c.as_slice.result.now =
    ap (λ (z : ℕ). row g z) (sym c.index.ensures) ∙ row_read g c.index.result c.index-uses-index.result there c.index-uses-index.is ∙ sym c.as_slice.ensures.value in
    let k2 = c.in_ok-add_others.ensures in
    record {
      all = λ a i h u no. elim (item_more w k x a c.loop-export-test.true c.export-item.is h) as (λ _. Has c.add_others.new.found.items i) [
        | inl same ↦ k2.new i (subst (λ (l : List ℕ). Has l i) e (subst (λ (z : ℕ). Uses g z i) same u)) no
        | inr t ↦ k2.was i (inv.all a i t u no)
      ];
      only = λ i h. elim (k2.only i h) as (λ _. IsNeededOutside g w i) [
        | inl was ↦ inv.only i was
        | inr new ↦ ((λ b. new.1 ((c.requires.keys i).1 b)), (x, has, subst (λ (l : List ℕ). Has l i) (sym e) new.0))
      ];
    }
