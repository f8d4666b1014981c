use Rattle.type_sinks.specs.Passed.type_writing-Writing.{IsRemembered}
use Rattle.type_sinks.specs.Kept.{index_of}
use Rattle.type_sinks.specs.Views.{root_setting, root_names}
use Rattle.component_imports.proofs.Readied.{items_ready}
use Rattle.component_imports.proofs.law.law_ready_functions_are_imported.Goals as goal

pub returns : goal.returns
returns c = λ r types ids functions ready. items_ready (root_setting r) (root_names r) (IsRemembered (index_of r.known)) types ids functions ready
