use Rattle.labelled_worlds.proofs.Exported.{exported_functions_apart}
use Rattle.labelled_worlds.proofs.law.law_exported_functions_are_apart.Goals as goal

pub returns : goal.returns
returns c = exported_functions_apart
