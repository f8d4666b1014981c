use Rattle.wit_plain_texts.proofs.Bytes.{identifiers_are_plain}
use Rattle.wit_plain_texts.proofs.law.law_identifiers_are_plain.Goals as goal

pub returns : goal.returns
returns c = identifiers_are_plain
