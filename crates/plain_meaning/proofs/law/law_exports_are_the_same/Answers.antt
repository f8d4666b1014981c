use Rattle.plain_meaning.proofs.Right.{exports_same}
use Rattle.plain_meaning.proofs.law.law_exports_are_the_same.Goals as goal

pub returns : goal.returns
returns c = exports_same
