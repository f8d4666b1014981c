use Rattle.std.proofs.Common.{◌≡◌, map, take}
use Rattle.flat_types.specs.Flats.{part_flat, of_fields}
use Rattle.flat_types.specs.View.{flat_value}
use Rattle.flat_types.proofs.flat.of_fields.Given as goal

abbrev pub invariant-loop-part : goal.invariant-loop-part
invariant-loop-part g l = flat_value l.flat ≡ of_fields (map (λ p. part_flat (map flat_value l.known) (g.P.Part.part p)) (take l.part-index l.parts))
