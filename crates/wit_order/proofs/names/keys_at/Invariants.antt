use Rattle.std.proofs.Common.{take}
use Rattle.wit_order.specs.Names.{AreKeysAt, table, texts}
use Rattle.wit_order.proofs.names.keys_at.Given as goal

abbrev pub invariant-loop-place : goal.invariant-loop-place
invariant-loop-place l = AreKeysAt (table l.deps.entries) (take l.place-index l.order) (texts l.names.items)
