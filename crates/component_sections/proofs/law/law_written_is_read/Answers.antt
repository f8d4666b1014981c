use Rattle.component_sections.proofs.Following.{written_is_read}
use Rattle.component_sections.proofs.law.law_written_is_read.Goals as goal

pub returns : goal.returns
returns c = written_is_read
