use Rattle.wit_plain_texts.proofs.Scopes.{packages_are_plain}
use Rattle.wit_plain_texts.proofs.law.law_packages_are_plain.Goals as goal

pub returns : goal.returns
returns c = packages_are_plain
