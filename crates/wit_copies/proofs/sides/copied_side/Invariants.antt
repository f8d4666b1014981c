use Rattle.std.proofs.Common.{List, ◌++◌}
use Rattle.wit_types.specs.declared.world.WorldItem.{WorldItem}
use Rattle.wit_types.specs.declared.world_key.WorldKey.{WorldKey}
use Rattle.wit_copies.specs.Copies as spec
use Rattle.wit_copies.proofs.sides.copied_side.Given as goal

abbrev pub invariant-loop-key : goal.invariant-loop-key
invariant-loop-key l = (more : List (WorldKey × WorldItem)) → spec.AreCopiedEntries l.copies l.key-iterator more → spec.AreCopiedEntries l.copies l.side.entries (l.found.items ++ more)
