use Rattle.std.proofs.Common.{ℕ, ◌<◌}
use Rattle.wit_rules.specs.Repeats.{IsRepeat}
use Rattle.wit_rules.proofs.repeats.first_repeat_of_few.Given as goal

abbrev pub invariant-loop-place : goal.invariant-loop-place
invariant-loop-place g l = (p : ℕ) → p < l.place → IsRepeat g.K.PartialEq.eq l.keys p → ⊥
