use Rattle.wit_named_packages.proofs.Worlds.{worlds_take}
use Rattle.wit_named_packages.proofs.law.law_resolved_worlds_take_by_use.Goals as goal

pub returns : goal.returns
returns c = worlds_take
