-- What the root of a component remembers of the types that are written (Component Model, Explainer, Import and Export Definitions).
use Rattle.std.specs.Prelude.{◌≡◌, ℕ, Bool, List, [], ◌∷◌, get_or, slice_get, Option, Some, true, false, String, string_bytes}
use Rattle.std.specs.List.{flat_map}
use Rattle.std.specs.declared.alloc.Global.{Global}
use Rattle.component_sections.specs.Passed.component_entries-Entries.{EntryValue, an_alias, a_type as defines, an_import, an_export}
use Rattle.component_value_types.specs.declared.values.ValueType.TheVariants.{Index}
use Rattle.wit_types.specs.declared.kind.«Type».TheVariants.{Id}
use Rattle.wit_types.specs.declared.interface.TypeDef.{TypeDef}
use Rattle.wit_types.specs.declared.interface.TypeOwner.{TypeOwner}
use Rattle.wit_types.specs.declared.interface.TypeOwner.TheVariants as belongs
use Rattle.type_writing.specs.Passed.type_meaning-Words.{Site, root_import, imported, Label}
use Rattle.type_writing.specs.Passed.type_meaning-Items.{Item, Items, a_type, an_instance, item_named, item_at, is_value}
use Rattle.type_writing.specs.Passed.type_meaning-Scope.{Scope, meaning}
use Rattle.type_writing.specs.Unfolding.{OwnName, WitTree, Unfolds}
use Rattle.type_writing.specs.Writing.{written, Stands}
use Rattle.type_sinks.specs.Imports.{entry_names, AreImportsOf}

-- the name under which each interface is imported, by its id
abbrev pub InterfaceNames : Type 0
InterfaceNames = List (List ℕ)

-- the types of the world are imported at the root, those of an interface by its instance
abbrev pub site_of : InterfaceNames → TypeOwner → Site
site_of names (belongs.World w) = root_import
site_of names (belongs.Interface i) = imported (get_or names i [])
site_of names belongs.None = root_import

abbrev pub root_label : InterfaceNames → OwnName → Label
root_label names o = record { site = site_of names o.owner; name = o.name }

-- it's no interface's
abbrev pub is_of_world : TypeOwner → Bool
is_of_world (belongs.World w) = true
is_of_world (belongs.Interface i) = false
is_of_world belongs.None = true

-- under which name an entry imports something
abbrev pub imported_name : EntryValue → List (List ℕ)
imported_name (an_alias a) = []
imported_name (defines t) = []
imported_name (an_import i) = i.name ∷ []
imported_name (an_export e) = []

unfoldable pub imported_names : List EntryValue → List (List ℕ)
imported_names es = flat_map imported_name es

-- these are the names of what is imported
abbrev pub ImportsAreNamed : Type 0
ImportsAreNamed = (es : List EntryValue) → imported_names es ≡ entry_names (meaning es).imports

-- the instance with that index has the type with that id, which is of an interface, under the type's name
pub record IsHome (names : InterfaceNames) (types : List TypeDef) (instances : List Item) (id instance : ℕ) : Type 0 where
  pub def : TypeDef
  pub there : slice_get types id ≡ Some def
  pub interface : ℕ
  pub owner : def.owner ≡ belongs.Interface interface
  pub name : String Global
  pub named : def.name ≡ Some name
  pub site : Site
  pub items : Items
  pub is : item_at instances instance ≡ an_instance site items
  pub tree : WitTree
  pub unfolds : Unfolds types (Id id) tree
  pub has : item_named (string_bytes name) items ≡ a_type (written (root_label names) tree)
  pub value : is_value (written (root_label names) tree) ≡ true

-- what is remembered is so: the index of each type that is written, and the instance of each that is imported with one; and the indices tell
-- what is imported
pub record RootGood (names : InterfaceNames) (known homes : ℕ → Option ℕ) (scope : Scope) (types : List TypeDef) : Type 0 where
  pub ids : (id i : ℕ) → known id ≡ Some i → Stands (root_label names) types scope.types (Id id) (Index i)
  pub instances : (id k : ℕ) → homes id ≡ Some k → IsHome names types scope.instances id k
  pub imports : AreImportsOf scope
