use Rattle.linked_worlds.proofs.Naming.{worlds_apart}
use Rattle.linked_worlds.proofs.law.law_worlds_have_texts_apart.Goals as goal

pub returns : goal.returns
returns c = worlds_apart
