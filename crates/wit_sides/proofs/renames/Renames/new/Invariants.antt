use Rattle.std.proofs.Common.{◌≡◌, ◌++◌}
use Rattle.std.proofs.Math.ListN.{drop}
use Rattle.wit_sides.specs.Renames as spec
use Rattle.wit_sides.proofs.renames.Renames.new.Given as goal

abbrev pub invariant-loop-name : goal.invariant-loop-name
invariant-loop-name l = l.places ++ spec.sources (drop l.name-index l.names) ≡ spec.sources l.names
