use Rattle.wit_tokens.proofs.Lexemes.{one_lexing}
use Rattle.wit_tokens.proofs.law.law_one_list_of_tokens.Goals as goal

pub returns : goal.returns
returns c = one_lexing
