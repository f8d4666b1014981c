use Rattle.std.proofs.Common.{◌≡◌, ◌++◌}
use Rattle.std.proofs.Math.ListN.{drop}
use Rattle.wit_sides.specs.Sides as spec
use Rattle.wit_sides.proofs.sides.name_keys.Given as goal

abbrev pub invariant-loop-entry : goal.invariant-loop-entry
invariant-loop-entry l = l.keys.items ++ spec.name_keys (spec.plain_names (drop l.entry-index l.entries)) ≡ spec.name_keys (spec.plain_names l.entries)
