use Rattle.binary_grammar.specs.Syntax.{meaning}
use Rattle.binary_grammar.proofs.Lawful.{lawful}
use Rattle.binary_grammar.proofs.OneValue.{all_one_break, all_none}
use Rattle.binary_grammar.proofs.law.law_a_content_break_is_one.Goals as goal

pub returns : goal.returns
returns g c = record {
  one = λ there. all_one_break (meaning g.T.Content.content there) (lawful g.T.Content.content there);
  none = λ there. all_none (meaning g.T.Content.content there) (lawful g.T.Content.content there);
}
