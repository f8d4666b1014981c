use Rattle.std.proofs.Common.{◌≡◌, map}
use Rattle.component_entries.specs.Entries.{entry_value}
use Rattle.component_entries.specs.Nested.{nested_section_value, entries_in}
use Rattle.component_entries.proofs.nested.entries_of.Given as goal

abbrev pub invariant-loop-section : goal.invariant-loop-section
invariant-loop-section l = map entry_value l.entries.items ≡ entries_in (map nested_section_value l.yielded)
