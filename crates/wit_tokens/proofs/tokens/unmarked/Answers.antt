use Rattle.wit_tokens.proofs.Marks.{percent_some, percent_none}
use Rattle.wit_tokens.proofs.tokens.unmarked.Goals as goal

pub returns-in-Some : goal.returns-in-Some
returns-in-Some c = percent_some c.args.word.now c.in-Some.name c.in-Some.ensures.cases

pub returns-in-None : goal.returns-in-None
returns-in-None c = percent_none c.args.word.now c.in-None.ensures.cases
