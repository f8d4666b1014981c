use Rattle.std.proofs.Common.{List, ◌++◌}
use Rattle.wit_plans.specs.declared.moves.MovedWorld.{MovedWorld}
use Rattle.wit_plans.specs.Moves as spec
use Rattle.wit_plans.proofs.moves.moved_worlds.Given as goal

abbrev pub invariant-loop-world : goal.invariant-loop-world
invariant-loop-world l =
    (more : List MovedWorld) → spec.AreMovedWorlds l.features l.standing l.world-iterator.rest.items more → spec.AreMovedWorlds l.features l.standing l.fn.worlds.items (l.found.items ++ more)
