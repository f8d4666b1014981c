use Rattle.linked_worlds.proofs.Importable.{worlds_writable}
use Rattle.linked_worlds.proofs.law.law_worlds_are_writable.Goals as goal

pub returns : goal.returns
returns c = worlds_writable c.law_linked_interfaces_are_writable.ensures
