use Rattle.std.proofs.Common.{drop, map}
use Rattle.plain_worlds.specs.World.{parameter_of, param_item}
use Rattle.plain_worlds.proofs.Each.{AreEach}
use Rattle.plain_worlds.proofs.world.params_of.Given as goal

abbrev pub invariant-loop-param : goal.invariant-loop-param
invariant-loop-param l = AreEach parameter_of l.params (map param_item l.found.items) (drop l.param-index l.params)
