use Rattle.wit_component.proofs.Right.{written_meets}
use Rattle.wit_component.proofs.law.law_written_meets_all.Goals as goal

pub returns : goal.returns
returns c = written_meets
