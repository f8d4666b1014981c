use Rattle.component_imports.proofs.Earlier.{earlier_used}
use Rattle.component_imports.proofs.law.law_earlier_types_are_used.Goals as goal

pub returns : goal.returns
returns c = earlier_used
