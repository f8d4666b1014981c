-- The interfaces of which modules need something are imported of a world of a graph, but for sizes and memory (WIT, Use; Component Model,
-- Explainer, Import and Export Definitions, Type Definitions).
use Rattle.std.specs.Prelude.{◌≡◌, ℕ, List, [], ◌++◌, length}
use Rattle.wasm_types.specs.Entries.{ImportValue}
use Rattle.wit_types.specs.declared.function.Function.{Function}
use Rattle.right_components.specs.Passed.core_links-Names.{Names}
use Rattle.right_components.specs.Passed.core_links-Needed.{AreOwnNeeded, AreLinkedNeeded}
use Rattle.right_components.specs.Passed.link_table-Linking.{exported_functions}
use Rattle.linked_types.specs.Reached.{ids_of, MayBeLinked}
use Rattle.right_components.specs.Passed.type_sinks-declared-root-Root.{Root}
use Rattle.right_components.specs.Passed.type_sinks-Views.{root_names, interface_names}
use Rattle.right_components.specs.Outside.{AreKeyTexts}
use Rattle.linked_interfaces.specs.Passed.component_imports-Ready.{AreWritable}
use Rattle.linked_interfaces.specs.Writable.{all_linked, AreImportable}
use Rattle.wit_graph.specs.Graph.{AreWhole}
use Rattle.wit_graph.specs.declared.tables.Tables.{Tables}
use Rattle.linked_worlds.specs.Linked.{AreNamesOf}
use Rattle.linked_worlds.specs.Named.{AreItemsNamed}

-- a root with names of all interfaces, each the text of a key, under which nothing is imported yet
pub record IsEmptyRoot (n : Names) (r : Root) : Type 0 where
  pub named : AreKeyTexts n (interface_names r)
  pub so_many : length (interface_names r) ≡ length n.known.interfaces
  pub empty : root_names r ≡ []

-- the functions of the world itself that are needed, and those that it exports
abbrev pub own_and_exported : Names → List Function → List Function
own_and_exported n own = own ++ exported_functions n.world

module _ (Claim : Names → Root → List Function → List (List Function) → Type 0) where
  -- so it is of the needed functions of each world of such a graph
  abbrev pub OfNeeded : Type 0
  OfNeeded =
      (t : Tables) (i : ℕ) (n : Names) (r : Root) (is : List ImportValue) (own : List Function) (linked : List (List Function))
      → AreWhole t → AreItemsNamed t → AreNamesOf t i n → IsEmptyRoot n r → AreOwnNeeded n is own → AreLinkedNeeded n is linked → Claim n r own linked

abbrev pub WorldsAreImportable : Type 0
WorldsAreImportable = OfNeeded (λ n r own linked. AreImportable r n.known.types (ids_of (own_and_exported n own)) linked)

-- and where these functions may be linked, nothing but sizes and memory stands in the way
abbrev pub WorldsAreWritable : Type 0
WorldsAreWritable = OfNeeded (λ n r own linked. MayBeLinked n.known.types (all_linked linked ++ own_and_exported n own) → AreWritable r n.known.types (ids_of (own_and_exported n own)) linked)
