use Rattle.component_sections.proofs.Reading.{none_begins}
use Rattle.component_sections.proofs.law.law_a_break_stays.Goals as goal

pub returns : goal.returns
returns c = none_begins
