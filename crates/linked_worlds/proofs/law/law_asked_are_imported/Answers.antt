use Rattle.linked_worlds.proofs.Asked.{asked_are_imported}
use Rattle.linked_worlds.proofs.law.law_asked_are_imported.Goals as goal

pub returns : goal.returns
returns c = asked_are_imported
