use Rattle.component_session.proofs.Headline.{written_right}
use Rattle.component_session.proofs.law.law_written_is_right.Goals as goal

pub returns : goal.returns
returns c = written_right
