use Rattle.wit_item_names.proofs.Tables.{found_named}
use Rattle.wit_item_names.proofs.law.law_found_are_named.Goals as goal

pub returns : goal.returns
returns c = found_named
