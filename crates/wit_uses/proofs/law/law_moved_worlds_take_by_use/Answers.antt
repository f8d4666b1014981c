use Rattle.wit_uses.proofs.Worlds.{worlds_take}
use Rattle.wit_uses.proofs.law.law_moved_worlds_take_by_use.Goals as goal

pub returns : goal.returns
returns c = worlds_take
