use Rattle.type_writing.proofs.Texts.{written_types_are_the_texts}
use Rattle.type_writing.proofs.law.law_written_types_are_the_texts.Goals as goal

pub returns : goal.returns
returns c = written_types_are_the_texts
