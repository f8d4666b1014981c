use Rattle.std.proofs.Common.{◌≡◌, map}
use Rattle.flat_types.specs.Flats.{flats_from, flats}
use Rattle.flat_types.specs.View.{flat_value}
use Rattle.flat_types.proofs.flat.FlatTypes.new.Given as goal

abbrev pub invariant-loop-def : goal.invariant-loop-def
invariant-loop-def l = flats_from (map flat_value l.known.items) l.def-iterator.rest.now ≡ flats l.types
