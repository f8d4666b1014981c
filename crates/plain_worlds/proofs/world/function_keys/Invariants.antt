use Rattle.std.proofs.Common.{◌≡◌, map, take}
use Rattle.std.specs.Prelude.{string_bytes}
use Rattle.plain_worlds.specs.World as spec
use Rattle.plain_worlds.proofs.world.function_keys.Given as goal

abbrev pub invariant-loop-function : goal.invariant-loop-function
invariant-loop-function l = map string_bytes l.keys.items ≡ spec.function_keys (map spec.function_item (take l.function-index l.functions))
