use Rattle.wit_plain_texts.proofs.Scopes.{scopes_are_plain}
use Rattle.wit_plain_texts.proofs.law.law_scopes_are_plain.Goals as goal

pub returns : goal.returns
returns c = scopes_are_plain
