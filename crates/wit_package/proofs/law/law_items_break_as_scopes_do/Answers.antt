use Rattle.wit_package.proofs.Lawful.{break_alike}
use Rattle.wit_package.proofs.law.law_items_break_as_scopes_do.Goals as goal

pub returns : goal.returns
returns c = break_alike
