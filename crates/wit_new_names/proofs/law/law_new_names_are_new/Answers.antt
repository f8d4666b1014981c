use Rattle.wit_new_names.proofs.New.{new_names}
use Rattle.wit_new_names.proofs.law.law_new_names_are_new.Goals as goal

pub returns : goal.returns
returns c = new_names
