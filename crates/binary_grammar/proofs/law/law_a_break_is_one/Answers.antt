use Rattle.binary_grammar.specs.Syntax.{meaning}
use Rattle.binary_grammar.proofs.Lawful.{lawful}
use Rattle.binary_grammar.proofs.OneValue.{one_break, no_front}
use Rattle.binary_grammar.proofs.law.law_a_break_is_one.Goals as goal

pub returns : goal.returns
returns g c = record {
  one = λ there. one_break (meaning g.T.Part.syntax there) (lawful g.T.Part.syntax there);
  none = λ there. no_front (meaning g.T.Part.syntax there) (lawful g.T.Part.syntax there);
}
