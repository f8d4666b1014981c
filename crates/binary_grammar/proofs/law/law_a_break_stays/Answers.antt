use Rattle.binary_grammar.proofs.Lawful.{lawful}
use Rattle.binary_grammar.proofs.law.law_a_break_stays.Goals as goal

pub returns : goal.returns
returns g c = λ there. (lawful g.T.Part.syntax there).stays
