use Rattle.std.proofs.Common.{◌≡◌, ◌++◌, map}
use Rattle.component_entries.specs.Entries.{entry_value}
use Rattle.linked_imports.specs.Passed.type_sinks-Placing.{as_definitions}
use Rattle.component_encoding.proofs.component.add_entries.Given as goal

abbrev pub invariant-loop-entry : goal.invariant-loop-entry
invariant-loop-entry l = l.builder ≡ l.initial.builder ++ as_definitions (map entry_value l.yielded)
