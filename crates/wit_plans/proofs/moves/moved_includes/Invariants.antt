use Rattle.std.proofs.Common.{◌≡◌, ◌++◌, flat_map}
use Rattle.wit_plans.specs.Moves as spec
use Rattle.wit_plans.proofs.moves.moved_includes.Given as goal

abbrev pub invariant-loop-include : goal.invariant-loop-include
invariant-loop-include l = l.found.items ++ flat_map (spec.moved_include l.features l.worlds) l.include-iterator.rest.items ≡ flat_map (spec.moved_include l.features l.worlds) l.fn.includes.items
