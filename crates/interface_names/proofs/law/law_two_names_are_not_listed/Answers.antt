use Rattle.interface_names.proofs.There.{two_names_not_listed}
use Rattle.interface_names.proofs.law.law_two_names_are_not_listed.Goals as goal

pub returns : goal.returns
returns c = two_names_not_listed
