use Rattle.wit_uses.proofs.Growing.{still_take}
use Rattle.wit_uses.proofs.law.law_interfaces_still_take_by_use.Goals as goal

pub returns : goal.returns
returns c = still_take
