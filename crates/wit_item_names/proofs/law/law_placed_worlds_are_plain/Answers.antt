use Rattle.wit_item_names.proofs.PlainMoved.{placed_plain}
use Rattle.wit_item_names.proofs.law.law_placed_worlds_are_plain.Goals as goal

pub returns : goal.returns
returns c = placed_plain
