use Rattle.std.proofs.Common.{take}
use Rattle.wit_foreign.specs.View as seen
use Rattle.wit_foreign.specs.GroupView as parts
use Rattle.wit_foreign.specs.Deps.{AreEntries, IsPackageDep, package_entries}
use Rattle.wit_foreign.proofs.deps.packages_in.Given as goal

abbrev pub invariant-loop-place : goal.invariant-loop-place
invariant-loop-place l = AreEntries (IsPackageDep l.items) (seen.needs (take l.place l.firsts)) (parts.rows l.rows) (package_entries l.deps.entries)
