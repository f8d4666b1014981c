-- Interfaces of which something is asked for are imported by a world of a graph (Component Model, WIT, Worlds; Build Targets).
use Rattle.std.specs.Prelude.{ℕ, List, ◌++◌}
use Rattle.wasm_types.specs.Entries.{ImportValue}
use Rattle.wit_types.specs.declared.function.Function.{Function}
use Rattle.wit_types.specs.declared.world_key.WorldKey.{WorldKey}
use Rattle.right_components.specs.Passed.core_links-Names.{Names}
use Rattle.right_components.specs.Passed.core_links-Needed.{IsKeyOf, AreOwnNeeded, AreLinkedNeeded}
use Rattle.right_components.specs.Passed.link_table-Linking.{exported_functions}
use Rattle.linked_types.specs.Reached.{ids_of}
use Rattle.linked_interfaces.specs.Passed.component_imports-Ready.{IsInterfaceAsked}
use Rattle.wit_item_names.specs.Passed.wit_uses-Uses.{TakeByUse}
use Rattle.wit_graph.specs.Graph.{AreWhole}
use Rattle.wit_graph.specs.declared.tables.Tables.{Tables}
use Rattle.linked_worlds.specs.Linked.{AreNamesOf}

-- Where names are those of a graph whose interfaces and worlds take types of others by use alone, the world imports each interface of which a
-- type is reached from functions of it that are needed, from those that it exports, or from such of an interface, or of which a function is needed.
abbrev pub AskedAreImported : Type 0
AskedAreImported =
    (t : Tables) (i : ℕ) (n : Names) (is : List ImportValue) (own : List Function) (linked : List (List Function))
    → AreWhole t → TakeByUse t.types t.interfaces.all t.worlds.listed → AreNamesOf t i n → AreOwnNeeded n is own → AreLinkedNeeded n is linked
    → (j : ℕ) → IsInterfaceAsked n.known.types (ids_of (own ++ exported_functions n.world)) linked j → (key : WorldKey) × IsKeyOf n key j
