use Rattle.wit_uses.proofs.Moving.{interfaces_take}
use Rattle.wit_uses.proofs.law.law_moved_interfaces_take_by_use.Goals as goal

pub returns : goal.returns
returns c = interfaces_take
