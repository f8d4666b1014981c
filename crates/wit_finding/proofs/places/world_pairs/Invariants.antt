use Rattle.std.proofs.Common.{◌≡◌, ◌++◌, drop}
use Rattle.wit_finding.specs.Places as spec
use Rattle.wit_finding.proofs.places.world_pairs.Given as goal

abbrev pub invariant-loop-from : goal.invariant-loop-from
invariant-loop-from l = l.pairs.items ++ spec.world_pairs (drop l.from-index l.found) ≡ spec.world_pairs l.found
