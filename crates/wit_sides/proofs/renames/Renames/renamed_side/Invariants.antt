use Rattle.std.proofs.Common.{List, ◌++◌}
use Rattle.wit_types.specs.declared.world.WorldItem.{WorldItem}
use Rattle.wit_types.specs.declared.world_key.WorldKey.{WorldKey}
use Rattle.wit_sides.specs.Renames as spec
use Rattle.wit_sides.proofs.renames.Renames.renamed_side.Given as goal

abbrev pub invariant-loop-key : goal.invariant-loop-key
invariant-loop-key l = (more : List (WorldKey × WorldItem)) → spec.AreRenamed l.self l.key-iterator.rest.items more → spec.AreRenamed l.self l.fn.entries.items (l.found.items ++ more)
