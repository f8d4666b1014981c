use Rattle.std.proofs.Common.{◌≡◌, map, take}
use Rattle.flat_types.specs.Flats.{part_flat}
use Rattle.flat_types.specs.View.{flat_value}
use Rattle.flat_types.proofs.Gathering.{joined}
use Rattle.flat_types.proofs.flat.of_cases.Given as goal

abbrev pub invariant-loop-case : goal.invariant-loop-case
invariant-loop-case g l = flat_value l.payload ≡ joined (map (λ p. part_flat (map flat_value l.known) (g.P.Part.part p)) (take l.case-index l.cases))
