use Rattle.wit_well_formed.proofs.Parsed.{parsed}
use Rattle.wit_well_formed.proofs.law.law_parsed_packages_are_well_formed.Goals as goal

pub returns : goal.returns
returns c = parsed
