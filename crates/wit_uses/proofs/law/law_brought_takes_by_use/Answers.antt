use Rattle.wit_uses.proofs.Brought.{brought_takes}
use Rattle.wit_uses.proofs.law.law_brought_takes_by_use.Goals as goal

pub returns : goal.returns
returns c = brought_takes
