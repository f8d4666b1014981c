use Rattle.component_sections.proofs.Reading.{one_break}
use Rattle.component_sections.proofs.law.law_a_break_is_one.Goals as goal

pub returns : goal.returns
returns c = one_break
