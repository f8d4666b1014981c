use Rattle.std.proofs.Common.{◌≡◌, ℕ, ◌<◌, ◌∙◌, ◌⊎◌, List, inl, inr, sym, subst, arith, length, length-set, get_or, set}
use Rattle.wit_order.specs.Order.{Has}
use Rattle.wit_order.specs.Places.{row}
use Rattle.wit_order.proofs.Lists.{has_get, has_take_more}
use Rattle.wit_order.proofs.Steps.{add_rows}
use Rattle.wit_order.proofs.places.add_to.Goals as goal

pub index_mut-requires : goal.index_mut-requires
index_mut-requires c =
    let l = c.requires _ (has_get c.args.wanted.now c.loop-other.other-index c.loop-other-test.true) in
    omega (arith, l, c.loop-other.invariant.size)

pub loop-other-preserved : goal.loop-other-preserved
loop-other-preserved c =
    let w : List ℕ = c.args.wanted.now in
    let k : ℕ = c.loop-other.other-index in
    let o : ℕ = get_or w k 0 in
    let has : Has w o = has_get w k c.loop-other-test.true in
    let l0 = c.requires o has in
    let l : o < length c.loop-other.turned.items = omega (arith, l0, c.loop-other.invariant.size) in
    let step = add_rows c.loop-other.turned.items o c.args.place c.index_mut.result.now c.push.new.self l c.index_mut.ensures.value c.in_ok-push.ensures.items in
    let inv = c.loop-other.invariant in
    record {
      size = length-set c.loop-other.turned.items o c.push.new.self ∙ inv.size;
      all = λ j h. elim (has_take_more w k j c.loop-other-test.true h) as (λ _. Has (row (set c.loop-other.turned.items o c.push.new.self) j) c.args.place) [
        | inl e ↦ subst (λ (z : ℕ). Has (row (set c.loop-other.turned.items o c.push.new.self) z) c.args.place) (sym e) step.0
        | inr was ↦ step.1 c.args.place j (inv.all j was)
      ];
      kept = λ i j h. step.1 i j (inv.kept i j h);
      only = λ i j h. elim (step.2 i j h) as (λ _. Has (row c.args.turned.now.items j) i ⊎ ((i ≡ c.args.place) × Has w j)) [
        | inl was ↦ inv.only i j was
        | inr new ↦ inr (new.0, subst (λ (z : ℕ). Has w z) (sym new.1) has)
      ];
    }
