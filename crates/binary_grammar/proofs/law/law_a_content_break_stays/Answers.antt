use Rattle.binary_grammar.proofs.Lawful.{lawful}
use Rattle.binary_grammar.proofs.law.law_a_content_break_stays.Goals as goal

pub returns : goal.returns
returns g c = λ there. (lawful g.T.Content.content there).stays
