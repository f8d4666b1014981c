use Rattle.std.proofs.Common.{◌≤◌, ◌-◌, map, drop, length}
use Rattle.component_sections.specs.Component.{definition_value, section_bytes, IsSection, sections_of}
use Rattle.component_sections.specs.Passed.component_entries-Nested.{header}
use Rattle.component_sections.proofs.Passed.component_entries-Neighbours.{Left}
use Rattle.component_builder.specs.Pieces.{pieces_bytes}
use Rattle.component_builder.proofs.pieces.pieces_of.Given as goal

abbrev pub invariant-loop-at : goal.invariant-loop-at
invariant-loop-at l = Left section_bytes IsSection (sections_of (map definition_value l.definitions)) (sections_of (drop l.at (map definition_value l.definitions))) header (pieces_bytes l.pieces) × (l.at ≤ length l.definitions)

abbrev pub decreases-loop-at : goal.decreases-loop-at
decreases-loop-at l = length l.definitions - l.at
