use Rattle.wit_tokens.proofs.Slices.{tokens_stand}
use Rattle.wit_tokens.proofs.law.law_tokens_are_slices.Goals as goal

pub returns : goal.returns
returns c = tokens_stand
