use Rattle.std.proofs.Common.{◌≡◌, take}
use Rattle.component_imports.specs.Functions.{functions_of, function_names}
use Rattle.linked_imports.proofs.imports.names_of_functions.Given as goal

abbrev pub invariant-loop-function : goal.invariant-loop-function
invariant-loop-function l = l.names ≡ function_names (functions_of (take l.function-index l.functions))
