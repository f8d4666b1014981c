use Rattle.std.proofs.Common.{◌≡◌, ℕ, ◌<◌, ◌≤◌, List, inl, inr, sym, ◌∙◌, subst, arith, length}
use Rattle.std.proofs.lemmas.Bool.{cases_lt}
use Rattle.wit_order.specs.Order.{Has}
use Rattle.wit_order.specs.Places.{row}
use Rattle.wit_order.proofs.Lists.{row_read, row_past}
use Rattle.wit_order.proofs.backward.need_earlier.Goals as goal

pub loop-place-preserved : goal.loop-place-preserved
loop-place-preserved c i j l need =
    elim (cases_lt i c.loop-place.place) as (λ _. j < i) [
      | inl less ↦ c.loop-place.invariant i j less need
      | inr more ↦
          let e : i ≡ c.loop-place.place = omega (arith, l, more) in
          let here : row c.args.needs.now c.loop-place.place ≡ c.as_slice.result.now =
          row_read c.args.needs.now c.loop-place.place c.index-needs-place.result c.loop-place-test.true c.index-needs-place.is ∙ sym c.as_slice.ensures.value in
          let has : Has (row c.args.needs.now c.loop-place.place) j = subst (λ (z : ℕ). Has (row c.args.needs.now z) j) e need in
          let less : j < c.loop-place.place = c.are_below.ensures.yes c.if-not-are_below.false j (subst (λ (r : List ℕ). Has r j) here has) in
          omega (arith, less, e)
    ]

pub returns-clause-yes : goal.returns-clause-yes
returns-clause-yes c e i j need =
    let l : i < length c.args.needs.now = row_past c.args.needs.now i j need in
    c.loop-place.invariant i j (let m : length c.args.needs.now ≤ c.loop-place.place = c.loop-place-test.false in omega (arith, l, m)) need

pub returns-then-not-are_below-clause-no : goal.returns-then-not-are_below-clause-no
returns-then-not-are_below-clause-no c e earlier =
    let far = c.are_below.ensures.no c.if-not-are_below.true in
    let here : row c.args.needs.now c.loop-place.place ≡ c.as_slice.result.now =
    row_read c.args.needs.now c.loop-place.place c.index-needs-place.result c.loop-place-test.true c.index-needs-place.is ∙ sym c.as_slice.ensures.value in
    let less : far.0 < c.loop-place.place = earlier c.loop-place.place far.0 (subst (λ (r : List ℕ). Has r far.0) (sym here) far.1) in
    let more : c.loop-place.place ≤ far.0 = far.2 in
    omega (arith, less, more)
