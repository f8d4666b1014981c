use Rattle.std.proofs.Common.{◌≡◌, ◌+◌, length, take}
use Rattle.flat_types.specs.Flats.{in_order, params_flat}
use Rattle.flat_types.proofs.flat.FlatTypes.are_many.Given as goal

abbrev pub invariant-loop-param : goal.invariant-loop-param
invariant-loop-param l = length (in_order (params_flat l.self (take l.param-index l.params))) + l.room ≡ 16
