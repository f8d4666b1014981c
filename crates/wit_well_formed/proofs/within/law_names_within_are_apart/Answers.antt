use Rattle.wit_well_formed.proofs.NamesWithin.{within_apart}
use Rattle.wit_well_formed.proofs.within.law_names_within_are_apart.Goals as goal

pub returns : goal.returns
returns c = within_apart
