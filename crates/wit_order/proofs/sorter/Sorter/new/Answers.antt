use Rattle.std.proofs.Common.{◌≡◌, ℕ, ◌<◌, ◌≤◌, ◌+◌, ◌⊎◌, ◌∙◌, inl, inr, length, arith}
use Rattle.std.proofs.lemmas.Bool.{cases_eq}
use Rattle.wit_order.proofs.Steps.{settled_step}
use Rattle.wit_order.proofs.sorter.Sorter.new.Goals as goal

next_place : (at n i : ℕ) → (at ≤ i) × (i < n) → (i ≡ at) ⊎ ((at + 1 ≤ i) × (i < n))
next_place at n i h =
    let low : at ≤ i = h.0 in
    elim (cases_eq i at) as (λ _. (i ≡ at) ⊎ ((at + 1 ≤ i) × (i < n))) [ inl e ↦ inl e | inr ne ↦ inr (omega arith, h.1) ]

pub loop-place-preserved : goal.loop-place-preserved
loop-place-preserved c =
    let n : ℕ = length c.args.needs.now in
    let at : ℕ = c.loop-place.place in
    let less : at < n = c.loop-place-test.true in
    record {
      settled = settled_step c.args.needs.now c.loop-place.sorter c.settle.new.self (λ i. (at ≤ i) × (i < n)) (λ i. (at + 1 ≤ i) × (i < n)) at
          c.loop-place.invariant.settled (omega arith, less) less c.in_ok-settle.ensures (next_place at n) (λ i h. ((let low : at + 1 ≤ i = h.0 in omega arith), h.1));
      flags = c.in_ok-settle.ensures.flags ∙ c.loop-place.invariant.flags;
    }
