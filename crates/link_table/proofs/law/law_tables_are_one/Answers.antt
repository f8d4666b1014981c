use Rattle.link_table.proofs.One.{tables_are_one}
use Rattle.link_table.proofs.law.law_tables_are_one.Goals as goal

pub returns : goal.returns
returns c = tables_are_one c.law_unfolded_functions_are_flat.ensures
