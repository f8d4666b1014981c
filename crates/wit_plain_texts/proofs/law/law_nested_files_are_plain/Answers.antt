use Rattle.wit_plain_texts.proofs.Scopes.{nested_files_are_plain}
use Rattle.wit_plain_texts.proofs.law.law_nested_files_are_plain.Goals as goal

pub returns : goal.returns
returns c = nested_files_are_plain
