use Rattle.component_imports.proofs.Apart.{earlier_apart}
use Rattle.component_imports.proofs.law.law_earlier_types_are_apart.Goals as goal

pub returns : goal.returns
returns c = earlier_apart
