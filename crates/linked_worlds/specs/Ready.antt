-- Functions of a world of a graph itself are imported behind its interfaces, but for sizes and memory (WIT, Item: `world`; Component Model,
-- Explainer, Import and Export Definitions).
use Rattle.std.specs.Prelude.{◌≡◌, ◌⊎◌, ℕ, List, ◌++◌, Option, Some, String, length, slice_get, string_bytes}
use Rattle.std.specs.declared.alloc.Global.{Global}
use Rattle.wasm_types.specs.Entries.{ImportValue}
use Rattle.wit_order.specs.Order.{Has}
use Rattle.wit_words.specs.declared.source_map.Span.{Span}
use Rattle.wit_types.specs.declared.function.Function.{Function}
use Rattle.wit_types.specs.declared.interface.TypeDef.{TypeDef}
use Rattle.wit_types.specs.declared.interface.TypeOwner.TheVariants as belongs
use Rattle.wit_types.specs.declared.world.WorldItem.TheVariants as item
use Rattle.wit_types.specs.declared.world_key.WorldKey.{WorldKey}
use Rattle.wit_reach.specs.Made.{IsMadeOfWithin}
use Rattle.wit_reach.specs.Lists.{AreOwnersThere}
use Rattle.wit_reach.specs.Needed.{BelongsTo, AreNeeded}
use Rattle.wit_reach.specs.Paths.{AreEnds}
use Rattle.wit_core_names.specs.Texts.{IsNameOf}
use Rattle.right_components.specs.Passed.type_writing-Writing.{IsRemembered}
use Rattle.right_components.specs.Passed.type_sinks-declared-root-Root.{Root}
use Rattle.right_components.specs.Passed.type_sinks-Kept.{index_of}
use Rattle.right_components.specs.Passed.core_links-Names.{Names}
use Rattle.right_components.specs.Passed.core_links-Needed.{AreOwnNeeded, AreLinkedNeeded}
use Rattle.right_components.specs.Passed.link_table-Linking.{exported_functions}
use Rattle.linked_types.specs.Reached.{ids_of, MayBeLinked}
use Rattle.linked_interfaces.specs.Passed.component_imports-Interfaces.{asked, AreNeededImported}
use Rattle.linked_interfaces.specs.Passed.component_imports-Ready.{IsAsked}
use Rattle.linked_interfaces.specs.Passed.component_imports-World.{IsWorldUnready}
use Rattle.linked_interfaces.specs.Writable.{all_linked}
use Rattle.wit_graph.specs.Graph.{AreWhole}
use Rattle.wit_graph.specs.declared.tables.Tables.{Tables}
use Rattle.linked_worlds.specs.Importable.{IsEmptyRoot, own_and_exported}
use Rattle.linked_worlds.specs.Linked.{AreNamesOf}
use Rattle.linked_worlds.specs.Named.{AreItemsNamed}

-- what needed functions of the world itself, and those that it exports, are made of, as far as the world sees it
abbrev pub AreSeen : ℕ → Names → List Function → List ℕ → Type 0
AreSeen i n own ids = AreEnds (IsMadeOfWithin (belongs.World i) n.known.types) (Has (ids_of (exported_functions n.world) ++ ids_of own)) ids

-- a type of the world, which imports it under its name
pub record IsImportedType (i : ℕ) (n : Names) (id : ℕ) (name : List ℕ) : Type 0 where
  pub type_def : TypeDef
  pub there : slice_get n.known.types id ≡ Some type_def
  pub its : type_def.owner ≡ belongs.World i
  pub key : WorldKey
  pub span : Span
  pub has : Has n.world.imports.entries (key, item.TypeItem id span)
  pub is : IsNameOf n.known.types id name

-- each of these with a name is one, or is of an interface
abbrev pub OwnTypesAreListed : Type 0
OwnTypesAreListed =
    (t : Tables) (i : ℕ) (n : Names) (is : List ImportValue) (own : List Function) (ids : List ℕ)
    → AreWhole t → AreItemsNamed t → AreNamesOf t i n → AreOwnNeeded n is own → AreSeen i n own ids
    → (id : ℕ) (d : TypeDef) (x : String Global) → Has ids id → slice_get n.known.types id ≡ Some d → d.name ≡ Some x → ((j : ℕ) × (d.owner ≡ belongs.Interface j)) ⊎ IsImportedType i n id (string_bytes x)

-- each type with a name that is asked for and is of an interface may be taken from an instance
abbrev pub MayBeTaken : Root → List TypeDef → List ℕ → List (List Function) → Type 0
MayBeTaken r types others linked = (j id : ℕ) (d : TypeDef) (x : String Global) → BelongsTo types id j → IsAsked types others linked id → slice_get types id ≡ Some d → d.name ≡ Some x → IsRemembered (index_of r.homes) id

-- so it is where each type with a name that is needed of an interface is remembered with an instance
abbrev pub NeededAreRemembered : Root → List TypeDef → List (List ℕ) → List (List Function) → Type 0
NeededAreRemembered r types needed linked = (j : ℕ) (ids : List ℕ) (fs : List Function) (id : ℕ) (d : TypeDef) (x : String Global) → slice_get needed j ≡ Some ids → slice_get linked j ≡ Some fs → Has ids id → slice_get types id ≡ Some d → d.name ≡ Some x
    → IsRemembered (index_of r.homes) id

abbrev pub RememberedMayBeTaken : Type 0
RememberedMayBeTaken =
    (r : Root) (types : List TypeDef) (others : List ℕ) (linked : List (List Function)) (needed : List (List ℕ)) → AreOwnersThere (length linked) types → AreNeeded (length linked) types (asked others linked) needed → NeededAreRemembered r types needed linked
    → MayBeTaken r types others linked

-- the interfaces are imported of which these functions, others of the world and those that it exports need something
pub record AreInterfacesImported (n : Names) (old new : Root) (own : List Function) (linked : List (List Function)) : Type 0 where
  pub instances : List (Option ℕ)
  pub imported : AreNeededImported old new n.known.types instances (ids_of (own_and_exported n own)) linked
  pub taken : MayBeTaken new n.known.types (ids_of (own_and_exported n own)) linked

-- then `import_functions` doesn't answer `NotYet` for the functions of the world itself that are needed
abbrev pub OwnAreImported : Type 0
OwnAreImported =
    (t : Tables) (i : ℕ) (n : Names) (r new : Root) (is : List ImportValue) (own : List Function) (linked : List (List Function))
    → AreWhole t → AreItemsNamed t → AreNamesOf t i n → IsEmptyRoot n r → AreOwnNeeded n is own → AreLinkedNeeded n is linked → MayBeLinked n.known.types (all_linked linked ++ own_and_exported n own)
    → AreInterfacesImported n r new own linked → IsWorldUnready new n.known.types i (ids_of (exported_functions n.world)) own → ⊥
