use Rattle.wit_item_names.proofs.Moved.{placed_use_named}
use Rattle.wit_item_names.proofs.law.law_placed_use_named.Goals as goal

pub returns : goal.returns
returns c = placed_use_named
