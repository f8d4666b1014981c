use Rattle.wit_plain_texts.proofs.Files.{names_of_texts_are_plain}
use Rattle.wit_plain_texts.proofs.law.law_names_of_texts_are_plain.Goals as goal

pub returns : goal.returns
returns c = names_of_texts_are_plain
