use Rattle.std.proofs.Common.{arith}
use Rattle.wit_reach.proofs.Lists.{item_has}
use Rattle.wit_elaborated.proofs.imports.implied.Goals as goal

pub get-requires : goal.get-requires
get-requires c = c.requires c.id-item.result (item_has c.args.order.now c.loop-id.id-index c.id-item.result (omega (arith, c.loop-id-test.true, c.loop-id.auto)) c.id-item.is)
