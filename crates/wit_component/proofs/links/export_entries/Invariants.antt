use Rattle.std.proofs.Common.{◌≡◌, ◌++◌, map, flat_map, drop}
use Rattle.wit_component.specs.Places.{export_text, export_lines, lines_of_export}
use Rattle.wit_component.specs.View.{linking}
use Rattle.wit_component.proofs.links.export_entries.Given as goal

abbrev pub invariant-loop-index : goal.invariant-loop-index
invariant-loop-index l = map export_text l.found.items ++ flat_map (lines_of_export (linking l.linking)) (drop l.index (linking l.linking).world.exports) ≡ export_lines (linking l.linking)
