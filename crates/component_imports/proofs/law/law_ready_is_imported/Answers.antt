use Rattle.component_imports.proofs.Readied.{ready_imported}
use Rattle.component_imports.proofs.law.law_ready_is_imported.Goals as goal

pub returns : goal.returns
returns c = λ r types own ids functions ready. ready_imported r types own ids functions ready
