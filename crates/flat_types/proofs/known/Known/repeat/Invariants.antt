use Rattle.std.proofs.Common.{◌≡◌, take}
use Rattle.flat_types.specs.Flat.{repeated}
use Rattle.flat_types.specs.Flats.{cap}
use Rattle.flat_types.proofs.known.Known.repeat.Given as goal

abbrev pub invariant-loop-turn : goal.invariant-loop-turn
invariant-loop-turn l = l.values.items ≡ take cap (repeated l._turn l.self.values.now)
