use Rattle.labelled_worlds.proofs.Parts.{worlds_parts_apart}
use Rattle.labelled_worlds.proofs.law.law_worlds_have_parts_apart.Goals as goal

pub returns : goal.returns
returns c = worlds_parts_apart
