use Rattle.wit_well_formed.proofs.PlainNames.{worlds_have_own_types}
use Rattle.wit_well_formed.proofs.plain.law_worlds_have_own_types.Goals as goal

pub returns : goal.returns
returns c = worlds_have_own_types
