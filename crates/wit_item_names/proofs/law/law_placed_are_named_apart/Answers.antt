use Rattle.wit_item_names.proofs.Apart.{placed_apart}
use Rattle.wit_item_names.proofs.law.law_placed_are_named_apart.Goals as goal

pub returns : goal.returns
returns c = placed_apart
