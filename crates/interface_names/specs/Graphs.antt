-- Worlds of a graph, and lists of names by ids (WIT, Worlds, Item: `include`).
use Rattle.std.specs.Prelude.{ℕ, List}
use Rattle.wasm_types.specs.Entries.{ImportValue}
use Rattle.core_links.specs.Names.{Names}
use Rattle.linked_worlds.specs.Passed.type_sinks-Root.{InterfaceNames}
use Rattle.linked_worlds.specs.Passed.right_components-Outside.{AreInterfaceNames}
use Rattle.linked_worlds.specs.Passed.wit_graph-Graph.{AreWhole}
use Rattle.linked_worlds.specs.Passed.wit_graph-declared-tables-Tables.{Tables}
use Rattle.linked_worlds.specs.Linked.{AreNamesOf}
use Rattle.interface_names.specs.Names.{AreImportsThere, HasTwoNames}

-- what a world of a graph imports in the end is there
abbrev pub ImportsAreThere : Type 0
ImportsAreThere = (t : Tables) (i : ℕ) (n : Names) → AreWhole t → AreNamesOf t i n → AreImportsThere n

-- no list says two names of one interface by which core imports name it
abbrev pub TwoNamesAreNotListed : Type 0
TwoNamesAreNotListed = (n : Names) (is : List ImportValue) (names : InterfaceNames) → HasTwoNames n is → AreInterfaceNames n is names → ⊥
