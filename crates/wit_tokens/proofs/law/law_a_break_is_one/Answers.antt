use Rattle.wit_tokens.proofs.OneBreak.{one_break, no_tokens}
use Rattle.wit_tokens.proofs.law.law_a_break_is_one.Goals as goal

pub returns-clause-same : goal.returns-clause-same
returns-clause-same c = one_break

pub returns-clause-none : goal.returns-clause-none
returns-clause-none c = no_tokens
