use Rattle.std.proofs.Common.{map}
use Rattle.indexmap.specs.IndexMap.{values}
use Rattle.plain_worlds.specs.World.{item_of, function_item}
use Rattle.plain_worlds.proofs.Each.{AreSome}
use Rattle.plain_worlds.proofs.world.functions_of.Given as goal

abbrev pub invariant-loop-item : goal.invariant-loop-item
invariant-loop-item l = AreSome item_of (values l.side) (map function_item l.found.items) l.item-iterator
