use Rattle.binary_grammar.specs.Syntax.{meaning}
use Rattle.binary_grammar.proofs.Lawful.{lawful}
use Rattle.binary_grammar.proofs.Spelled.{read_again}
use Rattle.binary_grammar.proofs.OneValue.{one_value}
use Rattle.binary_grammar.proofs.law.law_written_is_read.Goals as goal

pub returns : goal.returns
returns g c = record {
  agree = λ there. (lawful g.T.Part.syntax there).again;
  again = read_again g.T.Part.syntax;
  one = λ there. one_value (meaning g.T.Part.syntax there) (lawful g.T.Part.syntax there);
}
