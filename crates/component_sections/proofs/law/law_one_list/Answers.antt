use Rattle.component_sections.proofs.Reading.{one_list}
use Rattle.component_sections.proofs.law.law_one_list.Goals as goal

pub returns : goal.returns
returns c = one_list
