use Rattle.component_imports.proofs.Distinct.{apart_distinct}
use Rattle.component_imports.proofs.law.law_apart_are_distinct.Goals as goal

pub returns : goal.returns
returns c = apart_distinct
