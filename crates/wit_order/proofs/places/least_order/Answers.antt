use Rattle.std.proofs.Common.{◌≡◌, ℕ, ◌<◌, true, List, Bool, Option, sym, subst, arith, length}
use Rattle.std.specs.Prelude.{MatchOption}
use Rattle.wit_order.specs.Sorter.{Sorting, Takes, Ends, unset_count, is_set}
use Rattle.wit_order.specs.Places.{Rows, IsSorted}
use Rattle.wit_order.proofs.InTurn.{in_turn_sorted}
use Rattle.wit_order.proofs.Lists.{unset_falls}
use Rattle.wit_order.proofs.Steps.{sorting_step, sorting_ends}
use Rattle.wit_order.proofs.places.least_order.Goals as goal

pub loop-order-preserved : goal.loop-order-preserved
loop-order-preserved c =
    let t : Takes c.args.needs.now c.in-Some.place c.loop-order.sorter c.next.new.self =
    subst (λ (r : Option ℕ). MatchOption r (Ends c.args.needs.now c.loop-order.sorter c.next.new.self) (λ p. Takes c.args.needs.now p c.loop-order.sorter c.next.new.self)) c.in-Some.is c.in_ok-place.ensures in
    record {
      sorting = subst (λ (o : List ℕ). Sorting c.args.needs.now c.next.new.self o) (sym c.in_ok-push.ensures.items)
          (sorting_step c.args.needs.now c.loop-order.sorter c.next.new.self c.in-Some.place c.loop-order.order.items c.loop-order.invariant.sorting t);
      turned = c.loop-order.invariant.turned;
    }

pub loop-order-smaller : goal.loop-order-smaller
loop-order-smaller c =
    let t : Takes c.args.needs.now c.in-Some.place c.loop-order.sorter c.next.new.self =
    subst (λ (r : Option ℕ). MatchOption r (Ends c.args.needs.now c.loop-order.sorter c.next.new.self) (λ p. Takes c.args.needs.now p c.loop-order.sorter c.next.new.self)) c.in-Some.is c.in_ok-place.ensures in
    let l : c.in-Some.place < length c.loop-order.sorter.placed.items = omega (arith, t.place, c.loop-order.invariant.sorting.settled.flags) in
    subst (λ (f : List Bool). unset_count f < unset_count c.loop-order.sorter.placed.items) (sym t.flags) (unset_falls c.loop-order.sorter.placed.items c.in-Some.place l t.fresh)

pub returns-in-None-clause-ok : goal.returns-in-None-clause-ok
returns-in-None-clause-ok c =
    let g : Rows = c.args.needs.now in
    let e : Ends g c.loop-order.sorter c.next.new.self =
    subst (λ (r : Option ℕ). MatchOption r (Ends g c.loop-order.sorter c.next.new.self) (λ p. Takes g p c.loop-order.sorter c.next.new.self)) c.in_default.is c.in_ok-place.ensures in
    sorting_ends g c.loop-order.sorter c.loop-order.order.items c.loop-order.invariant.sorting
    (λ i l. subst (λ (f : List Bool). is_set f i ≡ true) e.flags (c.in-None.ensures.none i (omega (arith, l, e.settled.flags))))

pub returns-then-need_earlier-clause-ok : goal.returns-then-need_earlier-clause-ok
returns-then-need_earlier-clause-ok c =
    subst (λ (order : List ℕ). IsSorted c.args.needs.now order) (sym c.in_ok-in_turn.ensures) (in_turn_sorted c.args.needs.now (c.need_earlier.ensures.yes c.if-need_earlier.true))
