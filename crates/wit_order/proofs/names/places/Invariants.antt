use Rattle.std.proofs.Common.{take}
use Rattle.wit_order.specs.Names.{AreFound, asks_of, table}
use Rattle.wit_order.proofs.names.places.Given as goal

abbrev pub invariant-loop-need : goal.invariant-loop-need
invariant-loop-need l = AreFound (table l.deps.entries) (asks_of (take l.need-index l.needs)) l.row.items
