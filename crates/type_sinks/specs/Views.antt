-- The root of a component, and the type of an instance, as contracts see them.
use Rattle.std.specs.Prelude.{◌≡◌, ◌⊎◌, ◌<◌, ◌≤◌, ℕ, ◌+◌, ◌^◌, List, [], ◌∷◌, ◌++◌, length, map, get_or, slice_get, option_map, Option, None, Some, true, false, nat_eq, String, string_bytes}
use Rattle.std.specs.declared.alloc.Global.{Global}
use Rattle.std.specs.List.{list_any}
use Rattle.distinct_names.specs.Names.{is_new}
use Rattle.component_definitions.specs.declared.externs.Description.TheVariants as descriptions
use Rattle.component_sections.specs.Passed.component_entries-Entries.{EntryValue, entry_value, a_type, an_import}
use Rattle.component_sections.specs.Passed.component_instances-Declarators.{DeclaratorValue, declarator_value}
use Rattle.component_sections.specs.Passed.component_instances-TypeDefinitions.{of_instance}
use Rattle.component_value_types.specs.declared.values.ValueType.TheVariants.{Index}
use Rattle.wit_types.specs.declared.kind.«Type».{«Type» as Ref}
use Rattle.wit_types.specs.declared.kind.«Type».TheVariants.{Id}
use Rattle.wit_types.specs.declared.function.Param.{Param}
use Rattle.wit_types.specs.declared.interface.TypeDef.{TypeDef}
use Rattle.wit_types.specs.declared.interface.TypeOwner.TheVariants as belongs
use Rattle.type_writing.specs.Passed.type_meaning-Words.{Site, Label}
use Rattle.type_writing.specs.Passed.type_meaning-Items.{Inside as TheInside, inside_of, Items, items_of, item_at, item_named, own_label, from_import, a_type as a_type_item, a_function, an_instance}
use Rattle.type_writing.specs.Passed.type_meaning-Scope.{Scope, meaning, adds}
use Rattle.type_sinks.specs.declared.root.Root.{Root}
use Rattle.type_sinks.specs.declared.inside.InterfaceTypes.{InterfaceTypes}
use Rattle.type_writing.specs.Unfolding.{OwnName, WitTree, Unfolds}
use Rattle.type_writing.specs.declared.fault.Fault.{Fault}
use Rattle.type_writing.specs.Writing.{written, Stands, Begins, Setting, IsRemembered}
use Rattle.type_writing.specs.Refusals.{IsCause}
use Rattle.type_sinks.specs.Root.{InterfaceNames, root_label, is_of_world, imported_names, RootGood}
use Rattle.type_sinks.specs.Imports.{names_in}
use Rattle.type_sinks.specs.Placing.{ArePlaced, AreDeclaratorsPlaced}
use Rattle.type_sinks.specs.Inside.{type_count, exported_names, is_of, inside_label, InsideGood}
use Rattle.type_writing.specs.Functions.{FunctionUnfolds}
use Rattle.type_sinks.specs.Kept.{index_of, AreKept}

-- ---- the root

-- what is written, in order
abbrev pub entry_values : Root → List EntryValue
entry_values r = map entry_value r.entries.items

-- what its indices stand for
abbrev pub root_scope : Root → Scope
root_scope r = meaning (entry_values r)

-- the name under which each interface is imported, by its id
abbrev pub interface_names : Root → InterfaceNames
interface_names r = map string_bytes r.names.now

-- under which names it imports something
abbrev pub root_names : Root → List (List ℕ)
root_names r = imported_names (entry_values r)

-- what stays while types are written: those of no interface are given their names here
abbrev pub root_setting : Root → Setting
root_setting r = record {
  label = root_label (interface_names r);
  is_own = is_of_world;
  homes = index_of r.homes;
  interface = None;
  around = record { interfaces = interface_names r; imported = []; known = λ _. None; functions = (root_scope r).functions; instances = (root_scope r).instances };
}

-- 32 bits can't say how many types there are with one more
abbrev pub IsFull : Root → Type 0
IsFull r = 2 ^ 32 ≤ length (root_scope r).types + 1

-- what it remembers is so of these types
abbrev pub RootIsGood : Root → List TypeDef → Type 0
RootIsGood r types = RootGood (interface_names r) (index_of r.known) (index_of r.homes) (root_scope r) types

-- what is written may stand where it does
abbrev pub RootIsPlaced : Root → Type 0
RootIsPlaced r = ArePlaced (entry_values r)

-- nothing is written, and nothing is remembered
pub record IsSameRoot (old new : Root) : Type 0 where
  pub entries : entry_values new ≡ entry_values old
  pub names : interface_names new ≡ interface_names old
  pub known : new.known ≡ old.known
  pub homes : new.homes ≡ old.homes

-- ---- entries

-- an entry is written behind the others, and what is remembered stays
pub record IsAdded (old new : Root) (e : EntryValue) : Type 0 where
  pub entries : entry_values new ≡ entry_values old ++ e ∷ []
  pub names : interface_names new ≡ interface_names old
  pub known : new.known ≡ old.known
  pub homes : new.homes ≡ old.homes

-- a type of an interface is taken from the instance that has it
pub record IsTaken (old new : Root) (name : List ℕ) (id i : ℕ) : Type 0 where
  pub names : interface_names new ≡ interface_names old
  pub imported : root_names new ≡ root_names old
  pub known : new.known ≡ old.known
  pub homes : new.homes ≡ old.homes
  pub functions : (root_scope new).functions ≡ (root_scope old).functions
  pub instances : (root_scope new).instances ≡ (root_scope old).instances
  pub home : IsRemembered (index_of old.homes) id
  pub there : i < length (root_scope new).types
  pub placed : (types : List TypeDef) → RootIsGood old types → RootIsPlaced old → RootIsPlaced new
  pub begins : Begins (root_scope old).types (root_scope new).types
  pub good : (types : List TypeDef) → RootIsGood old types → RootIsGood new types
  pub stands : (types : List TypeDef) (d : TypeDef) → RootIsGood old types → slice_get types id ≡ Some d → option_map string_bytes d.name ≡ Some name → Stands (root_label (interface_names new)) types (root_scope new).types (Id id) (Index i)

-- an instance of these declarators is imported under a name that is new
pub record IsWrittenUnder (old new : Root) (name : List ℕ) (ds : List DeclaratorValue) : Type 0 where
  pub fresh : is_new (root_names old) name ≡ true
  pub entries : entry_values new ≡ entry_values old ++ a_type (of_instance ds) ∷ an_import (record { name = name; description = descriptions.Instance (length (root_scope old).types) }) ∷ []
  pub names : interface_names new ≡ interface_names old
  pub known : new.known ≡ old.known

-- so it is for an interface, under the name that this has, and the instance is the home of each of these types
pub record IsImported (old new : Root) (interface : ℕ) (ds : List DeclaratorValue) (ids : List ℕ) : Type 0 where
  pub written : IsWrittenUnder old new (get_or (interface_names old) interface []) ds
  pub homes : AreKept (index_of old.homes) (index_of new.homes) ids (length (root_scope old).instances)

-- so it is beside all instances from which types may be taken
pub record IsImportedBeside (old new : Root) (name : List ℕ) (ds : List DeclaratorValue) : Type 0 where
  pub written : IsWrittenUnder old new name ds
  pub homes : new.homes ≡ old.homes

-- an entry takes the next index of a type alone
pub record AddsOneType (scope : Scope) (e : EntryValue) : Type 0 where
  pub types : length (adds scope e).types ≡ 1
  pub functions : (adds scope e).functions ≡ []
  pub instances : (adds scope e).instances ≡ []

-- 32 bits can't say how many types or instances there are with one more
abbrev pub IsFullOfInstances : Root → Type 0
IsFullOfInstances r = IsFull r ⊎ (2 ^ 32 ≤ length (root_scope r).instances + 1)

-- why no instance is imported under a name: the name is there already; or 32 bits can't say an index
abbrev pub IsNamedImportCause : Root → List ℕ → Fault → Type 0
IsNamedImportCause r name = IsCause (is_new (root_names r) name ≡ false) (IsFullOfInstances r)

-- nor for an interface: it has no name either
abbrev pub IsImportCause : Root → ℕ → Fault → Type 0
IsImportCause r interface = IsCause ((length (interface_names r) ≤ interface) ⊎ (is_new (root_names r) (get_or (interface_names r) interface []) ≡ false)) (IsFullOfInstances r)

-- and one that takes the next index of a function alone
pub record AddsOneFunction (scope : Scope) (e : EntryValue) : Type 0 where
  pub types : (adds scope e).types ≡ []
  pub functions : length (adds scope e).functions ≡ 1
  pub instances : (adds scope e).instances ≡ []

-- 32 bits can't say how many functions there are with one more
abbrev pub IsFullOfFunctions : Root → Type 0
IsFullOfFunctions r = 2 ^ 32 ≤ length (root_scope r).functions + 1

-- the function at an index is the import with that label, of this type
pub record IsFunctionAt (r : Root) (i : ℕ) (label : Label) (types : List TypeDef) (params : List Param) (result : Option Ref) : Type 0 where
  pub tree : WitTree
  pub unfolds : FunctionUnfolds types params result tree
  pub is : item_at (root_scope r).functions i ≡ a_function (from_import label) (written (root_label (interface_names r)) tree)

-- ---- the type of an instance

abbrev pub declarator_values : InterfaceTypes → List DeclaratorValue
declarator_values t = map declarator_value t.declarators.items

-- what it defines and exports
abbrev pub inside : InterfaceTypes → TheInside
inside t = inside_of ((root_scope t.root).types ∷ []) (declarator_values t)

-- under which names it exports something
abbrev pub inside_names : InterfaceTypes → List (List ℕ)
inside_names t = exported_names (declarator_values t)

-- what stays while types of an interface are written over a root: they are given their names here
abbrev pub setting_over : Root → ℕ → Setting
setting_over r interface = record {
  label = inside_label (interface_names r) interface;
  is_own = is_of interface;
  homes = index_of r.homes;
  interface = Some interface;
  around = record { interfaces = interface_names r; imported = root_names r; known = index_of r.known; functions = (root_scope r).functions; instances = (root_scope r).instances };
}

abbrev pub inside_setting : InterfaceTypes → Setting
inside_setting t = setting_over t.root t.interface

-- 32 bits can't say how many types there are with one more, here or around
abbrev pub IsFullInside : InterfaceTypes → Type 0
IsFullInside t = (2 ^ 32 ≤ type_count (declarator_values t) + 1) ⊎ IsFull t.root

-- what it remembers is so of these types
abbrev pub InsideIsGood : InterfaceTypes → List TypeDef → Type 0
InsideIsGood t types = InsideGood (interface_names t.root) (index_of t.root.known) (index_of t.root.homes) (root_scope t.root) (index_of t.known) t.exports.items (declarator_values t) t.interface types

-- what is written may stand where it does, in the root as it is or with more types
abbrev pub InsideIsPlaced : InterfaceTypes → Type 0
InsideIsPlaced t = RootIsPlaced t.root × AreDeclaratorsPlaced (length (root_scope t.root).types) (declarator_values t)

-- the type with that id is exported
abbrev pub IsGiven : InterfaceTypes → ℕ → Type 0
IsGiven t id = list_any (nat_eq id) t.exports.items ≡ true

-- nothing is written, and nothing is remembered
pub record IsSameInside (old new : InterfaceTypes) : Type 0 where
  pub declarators : declarator_values new ≡ declarator_values old
  pub root : new.root ≡ old.root
  pub interface : new.interface ≡ old.interface
  pub known : new.known ≡ old.known
  pub exports : new.exports.items ≡ old.exports.items

-- a declarator is written behind the others, over the same root, and these types are exported
pub record IsDeclared (old new : InterfaceTypes) (d : DeclaratorValue) (ids : List ℕ) : Type 0 where
  pub declarators : declarator_values new ≡ declarator_values old ++ d ∷ []
  pub root : new.root ≡ old.root
  pub interface : new.interface ≡ old.interface
  pub known : new.known ≡ old.known
  pub exports : new.exports.items ≡ ids

-- it exports a function under the name
pub record HasFunction (t : InterfaceTypes) (types : List TypeDef) (name : List ℕ) (params : List Param) (result : Option Ref) : Type 0 where
  pub tree : WitTree
  pub unfolds : FunctionUnfolds types params result tree
  pub has : item_named name (items_of (inside t).items) ≡ a_function (from_import (own_label name)) (written (inside_label (interface_names t.root) t.interface) tree)

-- the type with that id belongs to the interface
abbrev pub IsTypeOf : List TypeDef → ℕ → ℕ → Type 0
IsTypeOf types id interface = (d : TypeDef) × (slice_get types id ≡ Some d) × (d.owner ≡ belongs.Interface interface)

-- the instance at an index exports something under these names, and nothing else
pub record IsInstanceWith (r : Root) (instance : ℕ) (site : Site) (names : List (List ℕ)) : Type 0 where
  pub items : Items
  pub is : item_at (root_scope r).instances instance ≡ an_instance site items
  pub named : names_in items ≡ names

-- the instance at an index exports a function under the name, with types of these labels
pub record HasFunctionIn (label : OwnName → Label) (r : Root) (instance : ℕ) (site : Site) (types : List TypeDef) (name : List ℕ) (params : List Param) (result : Option Ref) : Type 0 where
  pub items : Items
  pub is : item_at (root_scope r).instances instance ≡ an_instance site items
  pub tree : WitTree
  pub unfolds : FunctionUnfolds types params result tree
  pub has : item_named name items ≡ a_function (from_import (record { site = site; name = name })) (written label tree)

-- with those of the root
abbrev pub InstanceHasFunction : Root → ℕ → Site → List TypeDef → List ℕ → List Param → Option Ref → Type 0
InstanceHasFunction r = HasFunctionIn (root_label (interface_names r)) r

-- the instance at an index exports the type with that id, under its name, with types of these labels
pub record HasTypeIn (label : OwnName → Label) (r : Root) (instance : ℕ) (site : Site) (types : List TypeDef) (id : ℕ) : Type 0 where
  pub def : TypeDef
  pub there : slice_get types id ≡ Some def
  pub name : String Global
  pub named : def.name ≡ Some name
  pub items : Items
  pub is : item_at (root_scope r).instances instance ≡ an_instance site items
  pub tree : WitTree
  pub unfolds : Unfolds types (Id id) tree
  pub has : item_named (string_bytes name) items ≡ a_type_item (written label tree)
