use Rattle.std.proofs.Common.{◌≡◌, take}
use Rattle.component_imports.specs.Functions.{functions_of}
use Rattle.right_components.specs.Passed.link_table-Linking.{functions_at}
use Rattle.linked_imports.proofs.imports.exported_functions.Given as goal

abbrev pub invariant-loop-entry : goal.invariant-loop-entry
invariant-loop-entry l = functions_of l.functions.items ≡ functions_at (take l.entry l.world.exports.entries)
