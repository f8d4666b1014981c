use Rattle.std.proofs.Common.{◌≡◌, ℕ, ◌<◌, ◌+◌, ◌∙◌, true, List, sym, subst, refl, length, arith, drop, get_or}
use Rattle.std.specs.Vec.{with_item}
use Rattle.wit_order.specs.declared.sorter.Sorter.{Sorter}
use Rattle.wit_order.specs.Order.{Has}
use Rattle.wit_order.specs.Places.{row}
use Rattle.wit_order.specs.Sorter.{Settled}
use Rattle.wit_order.proofs.Lists.{row_read, has_get, has_drop_more, has_dropped, has_drop_here, has_drop_all}
use Rattle.wit_order.proofs.Steps.{settled_step, settled_less, placed_step}
use Rattle.wit_order.proofs.sorter.Sorter.place.Goals as goal

pub loop-other-init : goal.loop-other-init
loop-other-init c =
    let l : c.args.place < length c.args.needed_by.now = omega (arith, c.requires.place, c.requires.turned.size) in
    let e : row c.args.needed_by.now c.args.place ≡ c.as_slice-waiting.result.now =
    row_read c.args.needed_by.now c.args.place c.index-needed_by-place.result l c.index-needed_by-place.is ∙ sym c.as_slice-waiting.ensures.value in
    let next : Sorter = record { placed = with_item c.args.self.now.placed c.args.place true; cursors = c.args.self.now.cursors; ready = c.args.self.now.ready } in
    record {
      settled = subst (λ (w : List ℕ). Settled c.args.needs.now next (Has w)) e
          (placed_step c.args.needs.now c.args.needed_by.now c.args.self.now next c.args.place c.requires.settled c.requires.apart c.requires.place c.requires.done c.requires.turned refl refl refl);
      flags = refl;
      waiting = sym e;
    }

pub settle-requires-clause-place : goal.settle-requires-clause-place
settle-requires-clause-place c =
    c.requires.turned.within c.args.place _
    (subst (λ (w : List ℕ). Has w (get_or c.as_slice-waiting.result.now c.loop-other.other-index 0)) c.loop-other.invariant.waiting
    (has_get c.as_slice-waiting.result.now c.loop-other.other-index c.loop-other-test.true))

pub loop-other-preserved : goal.loop-other-preserved
loop-other-preserved c =
    let w : List ℕ = c.as_slice-waiting.result.now in
    let k : ℕ = c.loop-other.other-index in
    let l : k < length w = c.loop-other-test.true in
    let x : ℕ = get_or w k 0 in
    let lx : x < length c.args.needs.now = c.requires.turned.within c.args.place x (subst (λ (w : List ℕ). Has w x) c.loop-other.invariant.waiting (has_get w k l)) in
    record {
      settled = settled_step c.args.needs.now c.loop-other.self c.settle.new.self (Has (drop k w)) (Has (drop (k + 1) w)) x
          c.loop-other.invariant.settled (has_drop_here w k l) lx c.in_ok-settle.ensures (λ i. has_drop_more w k i l) (λ i. has_dropped w k i l);
      flags = c.in_ok-settle.ensures.flags ∙ c.loop-other.invariant.flags;
      waiting = c.loop-other.invariant.waiting;
    }

pub returns-clause-settled : goal.returns-clause-settled
returns-clause-settled c =
    settled_less c.args.needs.now c.loop-other.self (Has (drop c.loop-other.other-index c.as_slice-waiting.result.now))
    (λ i. has_drop_all c.as_slice-waiting.result.now c.loop-other.other-index i c.loop-other-test.false) c.loop-other.invariant.settled
