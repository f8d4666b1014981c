use Rattle.wit_well_formed.proofs.PlainTexts.{worlds_are_named}
use Rattle.wit_well_formed.proofs.marks.law_parsed_worlds_are_named.Goals as goal

pub returns : goal.returns
returns c = worlds_are_named
