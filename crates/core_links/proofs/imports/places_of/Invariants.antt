use Rattle.std.specs.Prelude.{map}
use Rattle.wasm_types.specs.Entries.{import_value}
use Rattle.core_links.specs.Names.{names_in}
use Rattle.core_links.proofs.Meanings.{Walked}
use Rattle.core_links.proofs.imports.places_of.Given as goal

abbrev pub invariant-loop-import : goal.invariant-loop-import
invariant-loop-import l = Walked (names_in l.names) (map import_value l.imports) l.import-index l.seen l.places.items
