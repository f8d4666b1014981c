use Rattle.linked_worlds.proofs.Importable.{worlds_importable}
use Rattle.linked_worlds.proofs.law.law_worlds_are_importable.Goals as goal

pub returns : goal.returns
returns c = worlds_importable
