use Rattle.std.proofs.Common.{sym}
use Rattle.wit_moves.proofs.worlds.item_at.Goals as goal

pub returns : goal.returns
returns c = (c.in-Some.field-0-0.now, sym c.in-Some.ensures.entry)
