-- The outside of a component: what it imports and exports, by names and by the trees of types, as a world has it (Component Model,
-- Explainer, Import and Export Definitions, Type Checking; WIT, Worlds).
use Rattle.std.specs.Prelude.{◌≡◌, ℕ, List, [], get_or, slice_get, Some, String, string_bytes}
use Rattle.std.specs.List.{AllByRecursion as Each}
use Rattle.std.specs.declared.alloc.Global.{Global}
use Rattle.wasm_types.specs.Entries.{ImportValue}
use Rattle.wit_order.specs.Order.{Has}
use Rattle.wit_types.specs.Package.{interface_text}
use Rattle.wit_types.specs.declared.function.Function.{Function}
use Rattle.wit_types.specs.declared.interface.Interface.{Interface}
use Rattle.wit_types.specs.declared.interface.TypeDef.{TypeDef}
use Rattle.wit_types.specs.declared.interface.TypeOwner.TheVariants as belongs
use Rattle.wit_types.specs.declared.kind.«Type».TheVariants.{Id}
use Rattle.wit_types.specs.declared.stability.Stability.{Stability}
use Rattle.wit_types.specs.declared.world.WorldItem.TheVariants as item
use Rattle.wit_types.specs.declared.world_key.WorldKey.{WorldKey}
use Rattle.wit_names.specs.Names.{IsKeyText}
use Rattle.wit_core_names.specs.Texts.{IsNameOf}
use Rattle.link_table.specs.Passed.type_meaning-Words.{Site, imported, Label, Resource, defined_at, imported_as, its_own, itself, BinaryTree, seen}
use Rattle.link_table.specs.Passed.type_meaning-Items.{Origin, from_import, Item, Items, a_type, a_function, an_instance, item_named, Entry}
use Rattle.link_table.specs.Passed.type_meaning-Scope.{import_label}
use Rattle.type_sinks.specs.Passed.type_writing-Unfolding.{WitTree, Unfolds}
use Rattle.type_sinks.specs.Passed.type_writing-Writing.{written}
use Rattle.type_sinks.specs.Root.{InterfaceNames, root_label}
use Rattle.type_sinks.specs.Imports.{entries_of}
use Rattle.link_table.specs.Passed.core_links-Names.{Names}
use Rattle.link_table.specs.Passed.core_links-Needed.{IsKeyOf, IsNeeded}
use Rattle.link_table.specs.Linking.{Linking, types_of}
use Rattle.link_table.specs.Types.{HasTree}
use Rattle.right_components.specs.Needed.{IsFunctionNeeded, IsOwnNeeded, IsTypeNeeded, IsInterfaceNeeded}

-- ---- names

-- a key has this text
abbrev pub IsTextOf : Names → WorldKey → List ℕ → Type 0
IsTextOf n key text = IsKeyText interface_text n.known.packages n.known.interfaces key (Some text)

-- the world imports the interface with that id under a key of this text
pub record IsImportedUnder (n : Names) (id : ℕ) (text : List ℕ) : Type 0 where
  pub key : WorldKey
  pub is_key : IsKeyOf n key id
  pub is : IsTextOf n key text

-- each interface that the world imports has the text of a key under which it does
abbrev pub AreKeyTexts : Names → InterfaceNames → Type 0
AreKeyTexts n names = (id : ℕ) (text : List ℕ) → IsImportedUnder n id text → IsImportedUnder n id (get_or names id [])

-- under these texts interfaces are imported: each under that of one of its keys, and of the key by which core imports name functions of it
pub record AreInterfaceNames (n : Names) (is : List ImportValue) (names : InterfaceNames) : Type 0 where
  pub keys : AreKeyTexts n names
  pub needed : (key : WorldKey) (id : ℕ) (f : Function) (text : List ℕ) → IsKeyOf n key id → IsNeeded n is (Some key) f → IsTextOf n key text → get_or names id [] ≡ text

-- ---- trees

-- a resource by the label that it has
abbrev pub resource_label : Resource → Label
resource_label (defined_at i) = record { site = itself; name = [] }
resource_label (imported_as l) = l
resource_label (its_own name) = record { site = itself; name = name }

-- the tree of bytes is that of the texts, with the names that the bytes have, as the outside sees both
abbrev pub IsTree : InterfaceNames → BinaryTree → WitTree → Type 0
IsTree names b t = seen resource_label b ≡ seen resource_label (written (root_label names) t)

-- an item is that function, whoever's it is, or that type
pub record IsFunction (types : List TypeDef) (names : InterfaceNames) (f : Function) (origin : Origin) (i : Item) : Type 0 where
  pub tree : WitTree
  pub unfolds : HasTree types f tree
  pub binary : BinaryTree
  pub is : i ≡ a_function origin binary
  pub same : IsTree names binary tree

pub record IsType (types : List TypeDef) (names : InterfaceNames) (id : ℕ) (i : Item) : Type 0 where
  pub tree : WitTree
  pub unfolds : Unfolds types (Id id) tree
  pub binary : BinaryTree
  pub is : i ≡ a_type binary
  pub same : IsTree names binary tree

-- ---- interfaces

-- what an instance has is a function or a type of the interface that is needed, under its name
pub data IsOfInterface (l : Linking) (names : InterfaceNames) (site : Site) (id : ℕ) (d : Interface) (e : Entry) : Type 0 where
  its_function : (f : String Global × Function) → Has d.functions.entries f → IsFunctionNeeded l id f.1 → e.name ≡ string_bytes f.0
      → IsFunction (types_of l) names f.1 (from_import (record { site = site; name = e.name })) e.item → IsOfInterface l names site id d e
  its_type : (t : String Global × ℕ) → Has d.types.entries t → IsTypeNeeded l t.1 → e.name ≡ string_bytes t.0 → IsType (types_of l) names t.1 e.item → IsOfInterface l names site id d e

-- ---- imports

-- what is imported is listed by the world and needed: an interface with nothing but what of it is needed, a function or a type, under its
-- name
pub data IsListed (l : Linking) (names : InterfaceNames) (e : Entry) : Type 0 where
  an_interface : (key : WorldKey) (id : ℕ) (stability : Stability) (span : _) (d : Interface) (items : Items)
      → Has l.names.world.imports.entries (key, item.Interface id stability span) → slice_get l.names.known.interfaces id ≡ Some d → IsInterfaceNeeded l id → IsTextOf l.names key e.name
      → e.item ≡ an_instance (imported e.name) items → Each (IsOfInterface l names (imported e.name) id d) (entries_of items) → IsListed l names e
  its_function : (key : WorldKey) (f : Function) → Has l.names.world.imports.entries (key, item.Function f) → IsOwnNeeded l f → e.name ≡ string_bytes f.name
      → IsFunction (types_of l) names f (from_import (import_label e.name)) e.item → IsListed l names e
  its_type : (key : WorldKey) (id : ℕ) (span : _) → Has l.names.world.imports.entries (key, item.TypeItem id span) → IsTypeNeeded l id → IsNameOf (types_of l) id e.name → IsType (types_of l) names id e.item → IsListed l names e

-- the instance of an interface is imported, and has the type under a name
pub record HoldsType (l : Linking) (names : InterfaceNames) (imports : List Entry) (interface id : ℕ) (name : List ℕ) : Type 0 where
  pub entry : Entry
  pub there : Has imports entry
  pub named : entry.name ≡ get_or names interface []
  pub items : Items
  pub is : entry.item ≡ an_instance (imported entry.name) items
  pub type_is : IsType (types_of l) names id (item_named name items)

-- so it is of each type of an interface that is needed
abbrev pub AreTypesHeld : Linking → InterfaceNames → List Entry → Type 0
AreTypesHeld l names imports =
    (id j : ℕ) (d : TypeDef) (x : String Global) → slice_get (types_of l) id ≡ Some d → d.owner ≡ belongs.Interface j → d.name ≡ Some x → IsTypeNeeded l id → HoldsType l names imports j id (string_bytes x)

-- ---- exports

-- it is exported under its name, with its type; whatever it is of
abbrev pub IsExported : Names → InterfaceNames → Function → Entry → Type 0
IsExported n names f e = (e.name ≡ string_bytes f.name) × ((origin : Origin) × IsFunction n.known.types names f origin e.item)
