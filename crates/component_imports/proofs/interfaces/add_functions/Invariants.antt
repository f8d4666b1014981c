use Rattle.std.proofs.Common.{◌≡◌, ◌++◌, take}
use Rattle.component_imports.specs.Functions.{functions_of}
use Rattle.component_imports.specs.Interfaces.{ids_of}
use Rattle.component_imports.proofs.interfaces.add_functions.Given as goal

abbrev pub invariant-loop-function : goal.invariant-loop-function
invariant-loop-function l = l.ids.items ≡ l.initial.ids.items ++ ids_of (functions_of (take l.function-index l.functions))
