use Rattle.std.proofs.Common.{◌≡◌, map, take, length}
use Rattle.wasm_types.specs.Entries.{import_value}
use Rattle.core_links.specs.Marks.{AreMarksOf}
use Rattle.core_links.specs.Names.{names_in}
use Rattle.core_links.proofs.needed.Marks.of_imports.Given as goal

abbrev pub invariant-loop-index : goal.invariant-loop-index
invariant-loop-index l = AreMarksOf (names_in l.names) (take l.index (map import_value l.imports)) l.marks.own.items l.marks.interfaces.items × (length l.marks.interfaces.items ≡ length (names_in l.names).known.interfaces)
