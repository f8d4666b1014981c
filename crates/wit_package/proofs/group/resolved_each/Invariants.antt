use Rattle.std.proofs.Common.{take, length}
use Rattle.wit_package.specs.Group as spec
use Rattle.wit_package.specs.GroupView as seen
use Rattle.wit_package.proofs.group.resolved_each.Given as goal

abbrev pub invariant-loop-file : goal.invariant-loop-file
invariant-loop-file l = spec.AreResolved (seen.trees (take (length l.yielded) l.fn.files.items)) l.found.items
