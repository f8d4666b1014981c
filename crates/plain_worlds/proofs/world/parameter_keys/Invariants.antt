use Rattle.std.proofs.Common.{◌≡◌, map, take}
use Rattle.std.specs.Prelude.{string_bytes}
use Rattle.plain_worlds.specs.World as spec
use Rattle.plain_worlds.proofs.world.parameter_keys.Given as goal

abbrev pub invariant-loop-param : goal.invariant-loop-param
invariant-loop-param l = map string_bytes l.keys.items ≡ spec.parameter_keys (map spec.param_item (take l.param-index l.params))
