use Rattle.std.proofs.Common.{◌≡◌, ℕ, false, length}
use Rattle.core_links.specs.Marks.{is_marked_in}
use Rattle.core_links.proofs.Marking.{AreUnmarked}
use Rattle.core_links.proofs.needed.Marks.new.Given as goal

abbrev pub invariant-loop-id : goal.invariant-loop-id
invariant-loop-id l = AreUnmarked l.marks.items l._id
