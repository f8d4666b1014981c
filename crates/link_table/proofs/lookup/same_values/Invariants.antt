use Rattle.std.proofs.Common.{◌≡◌, take}
use Rattle.link_table.proofs.lookup.same_values.Given as goal

abbrev pub invariant-loop-place : goal.invariant-loop-place
invariant-loop-place l = take l.place l.values ≡ take l.place l.others
