use Rattle.std.proofs.Common.{take}
use Rattle.generated_modules.proofs.Marks.{Marked}
use Rattle.generated_modules.proofs.named.marks_at.Given as goal

abbrev pub invariant-loop-function : goal.invariant-loop-function
invariant-loop-function l = Marked l.count (take l.function-index l.named) l.marks.items
