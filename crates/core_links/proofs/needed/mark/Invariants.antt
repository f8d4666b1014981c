use Rattle.std.proofs.Common.{◌≡◌, ◌+◌, ◌-◌, ℕ}
use Rattle.std.specs.Prelude.{vec_len}
use Rattle.core_links.specs.Marks.{is_marked}
use Rattle.core_links.proofs.needed.mark.Given as goal

abbrev pub invariant-loop-marks : goal.invariant-loop-marks
invariant-loop-marks l = (k : ℕ) → is_marked l.marks.items k ≡ is_marked l.initial.marks.items k

abbrev pub decreases-loop-marks : goal.decreases-loop-marks
decreases-loop-marks l = l.place + 1 - vec_len l.marks
