use Rattle.std.proofs.Common.{◌≡◌, ℕ, inl, inr, subst, true, false}
use Rattle.wit_types.specs.Passed.wit_order-Order.{Has}
use Rattle.wit_reach.proofs.Lists.{item_has, item_more}
use Rattle.wit_reach.proofs.reach.first_in.Goals as goal

pub returns-then-has-clause-some : goal.returns-then-has-clause-some
returns-then-has-clause-some c = (item_has c.args.interfaces.now c.loop-interface.interface-index c.interface-item.result c.loop-interface-test.true c.interface-item.is, c.has.ensures.0 c.if-has.true)

pub loop-interface-preserved : goal.loop-interface-preserved
loop-interface-preserved c = λ i h k. elim (item_more c.args.interfaces.now c.loop-interface.interface-index c.interface-item.result i c.loop-interface-test.true c.interface-item.is h) as (λ _. ⊥) [
  | inl e ↦ (let t : c.has.result ≡ true = c.has.ensures.1 (subst (λ (z : ℕ). Has c.args.set.now.keys z) e k) in let f : c.has.result ≡ false = c.if-has.false in absurd cc)
  | inr t ↦ c.loop-interface.invariant i t k
]
