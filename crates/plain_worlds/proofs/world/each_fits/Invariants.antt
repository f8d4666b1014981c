use Rattle.std.proofs.Common.{◌≡◌, map, drop}
use Rattle.std.specs.List.{list_all}
use Rattle.plain_worlds.specs.World as spec
use Rattle.plain_worlds.proofs.world.each_fits.Given as goal

abbrev pub invariant-loop-function : goal.invariant-loop-function
invariant-loop-function l = list_all spec.function_fits (map spec.function_item (drop l.function-index l.functions)) ≡ list_all spec.function_fits (map spec.function_item l.functions)
