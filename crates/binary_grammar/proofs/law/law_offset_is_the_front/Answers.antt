use Rattle.binary_grammar.specs.Syntax.{meaning}
use Rattle.binary_grammar.proofs.Lawful.{lawful}
use Rattle.binary_grammar.proofs.OneValue.{placed}
use Rattle.binary_grammar.proofs.law.law_offset_is_the_front.Goals as goal

pub returns : goal.returns
returns g c = λ there. placed (meaning g.T.Part.syntax there) (lawful g.T.Part.syntax there)
