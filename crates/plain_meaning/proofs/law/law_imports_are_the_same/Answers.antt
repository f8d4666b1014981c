use Rattle.plain_meaning.proofs.Right.{imports_same}
use Rattle.plain_meaning.proofs.law.law_imports_are_the_same.Goals as goal

pub returns : goal.returns
returns c = imports_same
