use Rattle.binary_grammar.specs.Syntax.{meaning}
use Rattle.binary_grammar.proofs.Lawful.{lawful}
use Rattle.binary_grammar.proofs.Spelled.{all_read_again}
use Rattle.binary_grammar.proofs.OneValue.{all_one_value}
use Rattle.binary_grammar.proofs.law.law_content_written_is_read.Goals as goal

pub returns : goal.returns
returns g c = record {
  agree = λ there. (lawful g.T.Content.content there).again;
  again = all_read_again g.T.Content.content;
  one = λ there. all_one_value (meaning g.T.Content.content there) (lawful g.T.Content.content there);
}
