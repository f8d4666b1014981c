use Rattle.wit_item_names.proofs.Tables.{placed_tables}
use Rattle.wit_item_names.proofs.law.law_placed_tables_name_named.Goals as goal

pub returns : goal.returns
returns c = placed_tables
