-- The functions of a graph's interfaces for which core imports stand are as the writer of imports asks (WIT, Item: `interface`; Component
-- Model, Build Targets).
use Rattle.std.specs.Prelude.{ℕ, List}
use Rattle.wasm_types.specs.Entries.{ImportValue}
use Rattle.wit_types.specs.declared.function.Function.{Function}
use Rattle.right_components.specs.Passed.core_links-Names.{Names}
use Rattle.right_components.specs.Passed.core_links-Needed.{AreLinkedNeeded}
use Rattle.linked_interfaces.specs.Linked.{AreLinkedOf}
use Rattle.wit_graph.specs.Graph.{AreWhole}
use Rattle.wit_graph.specs.declared.tables.Tables.{Tables}
use Rattle.linked_worlds.specs.Linked.{AreNamesOf}

-- where names are those of a graph, what is needed of each interface are functions of it, each once
abbrev pub NeededAreLinked : Type 0
NeededAreLinked = (t : Tables) (i : ℕ) (n : Names) (is : List ImportValue) (linked : List (List Function)) → AreWhole t → AreNamesOf t i n → AreLinkedNeeded n is linked → AreLinkedOf t.interfaces.all linked
