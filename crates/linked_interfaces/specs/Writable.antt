-- Interfaces of a graph, of whose functions some may be linked, are imported, but for sizes and memory (WIT, Item: `interface`, Use;
-- Component Model, Explainer, Import and Export Definitions, Type Definitions).
use Rattle.std.specs.Prelude.{◌≡◌, ◌<◌, ◌≤◌, ℕ, List, ◌++◌, length, flat_map, bytes_eq, true, false}
use Rattle.distinct_names.specs.Names.{is_new}
use Rattle.wit_types.specs.declared.function.Function.{Function}
use Rattle.wit_types.specs.declared.interface.Interface.{Interface}
use Rattle.wit_types.specs.declared.interface.TypeDef.{TypeDef}
use Rattle.wit_reach.specs.Holding.{AreListed, HoldTheirTypes}
use Rattle.wit_reach.specs.Lists.{AreOwnersThere}
use Rattle.wit_placed.specs.Naming.{HaveNamesApart}
use Rattle.wit_placed.specs.Order.{AreNamelessFree}
use Rattle.linked_types.specs.Reached.{ids_of, MayBeLinked}
use Rattle.component_imports.specs.Passed.type_sinks-declared-root-Root.{Root}
use Rattle.component_imports.specs.Passed.type_sinks-Views.{root_names, interface_names}
use Rattle.component_imports.specs.Interface.{interface_name}
use Rattle.component_imports.specs.Ready.{IsInterfaceAsked, AreWritable}
use Rattle.linked_interfaces.specs.Linked.{AreLinkedOf}

-- the functions of all interfaces
abbrev pub all_linked : List (List Function) → List Function
all_linked linked = flat_map (λ (fs : List Function). fs) linked

-- each interface has a name, no two of which something is asked for have one, and nothing is imported under these yet
pub record AreImportable (r : Root) (types : List TypeDef) (others : List ℕ) (linked : List (List Function)) : Type 0 where
  pub named : length linked ≤ length (interface_names r)
  pub new : (own : ℕ) → IsInterfaceAsked types others linked own → is_new (root_names r) (interface_name r own) ≡ true
  pub apart : (i j : ℕ) → i < j → IsInterfaceAsked types others linked i → IsInterfaceAsked types others linked j → bytes_eq (interface_name r j) (interface_name r i) ≡ false

-- Where interfaces hold their types and all types of interfaces stand in them, names within each differ and types without names belong
-- nowhere, and where linked functions of each are functions of it, each once, and may be linked with others, nothing but sizes and memory
-- stands in the way of these and of the types of the others.
abbrev pub LinkedInterfacesAreWritable : Type 0
LinkedInterfacesAreWritable =
    (r : Root) (types : List TypeDef) (interfaces : List Interface) (others : List Function) (linked : List (List Function))
    → AreOwnersThere (length interfaces) types → HoldTheirTypes 0 types interfaces → AreListed 0 types interfaces → HaveNamesApart interfaces → AreNamelessFree types
    → AreLinkedOf interfaces linked → MayBeLinked types (all_linked linked ++ others) → AreImportable r types (ids_of others) linked
    → AreWritable r types (ids_of others) linked
