use Rattle.wit_well_formed.proofs.PlainTexts.{parsed_are_plain}
use Rattle.wit_well_formed.proofs.marks.law_parsed_packages_have_plain_names.Goals as goal

pub returns : goal.returns
returns c = parsed_are_plain
