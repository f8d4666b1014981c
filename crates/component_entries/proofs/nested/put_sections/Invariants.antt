use Rattle.std.proofs.Common.{◌≤◌, ◌-◌, map, drop, length}
use Rattle.component_entries.specs.Entries.{entry_value}
use Rattle.component_entries.specs.Nested.{section_bytes, IsSection, sections_of}
use Rattle.component_entries.proofs.Neighbours.{Left}
use Rattle.component_entries.proofs.nested.put_sections.Given as goal

abbrev pub invariant-loop-at : goal.invariant-loop-at
invariant-loop-at l = Left section_bytes IsSection (sections_of (map entry_value l.entries)) (sections_of (drop l.at (map entry_value l.entries))) l.initial.out.items l.out.items × (l.at ≤ length l.entries)

abbrev pub decreases-loop-at : goal.decreases-loop-at
decreases-loop-at l = length l.entries - l.at
