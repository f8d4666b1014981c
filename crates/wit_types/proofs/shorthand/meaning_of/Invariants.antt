use Rattle.std.proofs.Common.{ℕ}
use Rattle.wit_types.specs.Shorthand.{Stands}
use Rattle.wit_types.proofs.shorthand.meaning_of.Given as goal

abbrev pub invariant-loop-target : goal.invariant-loop-target
invariant-loop-target l = (k : ℕ) → Stands l.types l.at k → Stands l.types l.fn.id k

abbrev pub decreases-loop-target : goal.decreases-loop-target
decreases-loop-target l = l.at
