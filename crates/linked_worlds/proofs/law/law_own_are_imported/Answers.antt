use Rattle.linked_worlds.proofs.Ready.{own_imported}
use Rattle.linked_worlds.proofs.law.law_own_are_imported.Goals as goal

pub returns : goal.returns
returns c = own_imported c.law_ready_functions_are_imported.ensures
