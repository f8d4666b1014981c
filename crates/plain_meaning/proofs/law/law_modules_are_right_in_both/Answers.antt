use Rattle.plain_meaning.proofs.Right.{modules_right}
use Rattle.plain_meaning.proofs.law.law_modules_are_right_in_both.Goals as goal

pub returns : goal.returns
returns c = modules_right
