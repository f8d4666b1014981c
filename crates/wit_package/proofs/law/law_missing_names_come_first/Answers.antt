use Rattle.wit_package.proofs.Lawful.{missing_come_first}
use Rattle.wit_package.proofs.law.law_missing_names_come_first.Goals as goal

pub returns : goal.returns
returns c = missing_come_first
