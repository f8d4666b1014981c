use Rattle.wit_well_formed.proofs.PlainNames.{worlds_are_under_their_names}
use Rattle.wit_well_formed.proofs.plain.law_worlds_are_under_their_names.Goals as goal

pub returns : goal.returns
returns c = worlds_are_under_their_names
