-- Worlds of a graph are as the encoder of components asks (WIT, Worlds; Component Model, Build Targets).
use Rattle.std.specs.Prelude.{◌≡◌, ℕ, length}
use Rattle.wit_reach.specs.Lists.{AreOwnersThere}
use Rattle.wit_reach.specs.Types.{AreTypesBackward}
use Rattle.component_imports.specs.Passed.type_sinks-Root.{InterfaceNames}
use Rattle.component_imports.specs.Interfaces.{EarlierAreApart}
use Rattle.component_encoding.specs.Passed.link_table-Linking.{Linking, types_of, AreFunctionsThere}
use Rattle.component_encoding.specs.Passed.link_table-Table.{Table, IsTable}
use Rattle.linked_worlds.specs.Passed.right_components-Outside.{AreKeyTexts}
use Rattle.component_encoding.specs.Passed.linked_imports-Imports.{IsImportable}
use Rattle.component_encoding.specs.Component.{AreNeededListed}
use Rattle.linked_worlds.specs.Passed.wit_graph-Graph.{AreWhole}
use Rattle.linked_worlds.specs.Passed.wit_graph-declared-tables-Tables.{Tables}
use Rattle.linked_worlds.specs.Linked.{AreNamesOf}
use Rattle.linked_worlds.specs.Named.{AreItemsNamed}

-- all is there that the encoder asks for; the world lists what is needed, and that is imported but for sizes and memory
pub record IsEncodable (l : Linking) (world : ℕ) (names : InterfaceNames) : Type 0 where
  pub backward : AreTypesBackward (types_of l)
  pub there : AreFunctionsThere l.names
  pub owners : AreOwnersThere (length l.names.known.interfaces) (types_of l)
  pub apart : EarlierAreApart (types_of l)
  pub listed : AreNeededListed l world
  pub importable : (t : Table) → IsTable l t → IsImportable l world names

-- so is the world of each linking with names of the graph
abbrev pub WorldsAreEncodable : Type 0
WorldsAreEncodable =
    (t : Tables) (world : ℕ) (l : Linking) (names : InterfaceNames) → AreWhole t → AreItemsNamed t → AreNamesOf t world l.names → AreKeyTexts l.names names → length names ≡ length l.names.known.interfaces
    → IsEncodable l world names
