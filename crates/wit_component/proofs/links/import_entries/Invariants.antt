use Rattle.std.proofs.Common.{◌≡◌, ◌++◌, map, flat_map, drop}
use Rattle.wit_component.specs.Places.{import_text, import_lines, lines_of_import}
use Rattle.wit_component.specs.View.{linking}
use Rattle.wit_component.proofs.links.import_entries.Given as goal

abbrev pub invariant-loop-index : goal.invariant-loop-index
invariant-loop-index l = map import_text l.found.items ++ flat_map (lines_of_import (linking l.linking)) (drop l.index (linking l.linking).main.imports) ≡ import_lines (linking l.linking)
