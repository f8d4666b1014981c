use Rattle.wit_well_formed.proofs.Names.{names_apart}
use Rattle.wit_well_formed.proofs.naming.law_names_are_apart.Goals as goal

pub returns : goal.returns
returns c = names_apart
