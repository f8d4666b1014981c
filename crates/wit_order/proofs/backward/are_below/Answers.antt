use Rattle.std.proofs.Common.{ℕ, ◌<◌, inl, inr, arith, get_or}
use Rattle.wit_order.proofs.Lists.{has_get, has_take_more}
use Rattle.wit_order.proofs.backward.are_below.Goals as goal

pub loop-other-preserved : goal.loop-other-preserved
loop-other-preserved c j h =
    let x : ℕ = get_or c.args.row.now c.loop-other.other-index 0 in
    let less : x < c.args.place = c.if-other-place.false in
    elim (has_take_more c.args.row.now c.loop-other.other-index j c.loop-other-test.true h) as (λ _. j < c.args.place) [
      | inl e ↦ omega (arith, e, less)
      | inr was ↦ c.loop-other.invariant j was
    ]

pub returns-then-other-place-clause-no : goal.returns-then-other-place-clause-no
returns-then-other-place-clause-no c e = (get_or c.args.row.now c.loop-other.other-index 0, has_get c.args.row.now c.loop-other.other-index c.loop-other-test.true, c.if-other-place.true)
