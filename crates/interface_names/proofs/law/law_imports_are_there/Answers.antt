use Rattle.interface_names.proofs.There.{imports_are_there}
use Rattle.interface_names.proofs.law.law_imports_are_there.Goals as goal

pub returns : goal.returns
returns c = imports_are_there c.law_elaborated_worlds_are_there.ensures
