use Rattle.std.proofs.Common.{◌≡◌, map, take, ℕ, ◌<◌}
use Rattle.wit_rules.specs.Repeats.{IsRepeat}
use Rattle.wit_rules.proofs.repeats.first_repeat.Given as goal

abbrev pub invariant-loop-place : goal.invariant-loop-place
invariant-loop-place g l = (map (λ k. k.now) l.seen.keys ≡ take l.place l.keys) × ((p : ℕ) → p < l.place → IsRepeat g.K.PartialEq.eq l.keys p → ⊥)
