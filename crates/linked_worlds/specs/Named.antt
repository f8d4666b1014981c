-- How the items of a graph are named, and what they take of others (WIT, Use, Package Names, Item: `world`).
use Rattle.std.specs.Prelude.{ℕ}
use Rattle.wit_types.specs.declared.«package».Package.{Package}
use Rattle.right_components.specs.Passed.core_links-Names.{Names}
use Rattle.wit_graph.specs.Graph.{AreWhole}
use Rattle.wit_graph.specs.declared.tables.Tables.{Tables}
use Rattle.wit_item_names.specs.Items as items
use Rattle.linked_worlds.specs.Linked.{AreNamesOf}
use Rattle.linked_worlds.specs.Texts.{HaveTexts, AreTextsApart}

-- interfaces and worlds of a graph take types of others by use alone, and names that have to tell things apart do
abbrev pub AreItemsNamed : Tables → Type 0
AreItemsNamed t = items.AreItemsNamed t.packages t.types t.interfaces.all t.worlds.listed

-- so it is of a world with all that it imports in the end
abbrev pub WorldsHaveTextsApart : Type 0
WorldsHaveTextsApart = (t : Tables) (i : ℕ) (n : Names) → AreWhole t → AreItemsNamed t → AreNamesOf t i n → HaveTexts n.known.packages n.known.interfaces n.world.imports.entries × AreTextsApart n.known.packages n.known.interfaces n.world.imports.entries
