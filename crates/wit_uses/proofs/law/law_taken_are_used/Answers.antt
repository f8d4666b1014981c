use Rattle.wit_uses.proofs.Using.{taken_are_used}
use Rattle.wit_uses.proofs.law.law_taken_are_used.Goals as goal

pub returns : goal.returns
returns c = taken_are_used
