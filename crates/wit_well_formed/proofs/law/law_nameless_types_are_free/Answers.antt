use Rattle.wit_well_formed.proofs.Whole.{nameless_types}
use Rattle.wit_well_formed.proofs.law.law_nameless_types_are_free.Goals as goal

pub returns : goal.returns
returns c = nameless_types
