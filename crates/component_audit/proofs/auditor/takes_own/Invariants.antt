use Rattle.std.specs.Prelude.{option_map}
use Rattle.wasm_types.specs.Entries.{import_value}
use Rattle.wasm_format.specs.Module.{module_value}
use Rattle.wit_component.specs.Linking.{core_import}
use Rattle.component_audit.specs.SpacesView.{spaces, core_function}
use Rattle.wit_component.specs.View as view
use Rattle.component_audit.proofs.JudgedLinks.{Giving}
use Rattle.component_audit.proofs.auditor.takes_own.Given as goal

abbrev pub invariant-loop-index : goal.invariant-loop-index
invariant-loop-index l = Giving (view.linking l.linking) (spaces (view.linking l.linking).main l.spaces) (λ i. core_import (module_value l.linking.main) (import_value i)) (option_map core_function) l.linking.main.imports.items l.functions l.index
