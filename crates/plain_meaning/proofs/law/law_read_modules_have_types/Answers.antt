use Rattle.plain_meaning.proofs.Typed.{read_modules_have_types}
use Rattle.plain_meaning.proofs.law.law_read_modules_have_types.Goals as goal

pub returns : goal.returns
returns c = read_modules_have_types
