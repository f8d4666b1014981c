-- What a root has once all is imported that core imports need, and where the functions are found for which they stand (Component Model,
-- Explainer, Import and Export Definitions).
use Rattle.std.specs.Prelude.{◌≡◌, ℕ, List, [], ◌++◌, length, get_or, slice_get, Option, Some, None, true, string_bytes}
use Rattle.component_value_types.specs.declared.values.ValueType.TheVariants.{Index}
use Rattle.wit_order.specs.Order.{Has}
use Rattle.wit_types.specs.declared.function.Function.{Function}
use Rattle.wit_types.specs.declared.interface.TypeDef.{TypeDef}
use Rattle.wit_types.specs.declared.interface.TypeOwner.TheVariants as belongs
use Rattle.wit_types.specs.declared.kind.«Type».TheVariants.{Id}
use Rattle.wit_types.specs.declared.world_key.WorldKey.{WorldKey}
use Rattle.wit_reach.specs.Made.{IsMadeOfWithin}
use Rattle.wit_reach.specs.Needed.{AreNeeded as AreNeededTypes}
use Rattle.wit_reach.specs.Paths.{AreEnds}
use Rattle.type_writing.specs.Passed.type_meaning-Words.{root_import, imported, Label}
use Rattle.type_writing.specs.Passed.type_meaning-Items.{from_import, Item, a_function, an_instance, Items, item_at, item_named}
use Rattle.type_writing.specs.Passed.type_meaning-Scope.{import_label}
use Rattle.type_writing.specs.Unfolding.{WitTree}
use Rattle.type_writing.specs.Writing.{written, Stands, Begins, names_of_types, IsRemembered}
use Rattle.component_imports.specs.Passed.type_sinks-Root.{InterfaceNames, root_label}
use Rattle.component_imports.specs.Passed.type_sinks-Kept.{index_of}
use Rattle.component_imports.specs.Passed.type_sinks-Views.{root_scope, root_names, root_setting, interface_names, RootIsGood, InstanceHasFunction}
use Rattle.component_imports.specs.Passed.type_sinks-declared-root-Root.{Root}
use Rattle.component_imports.specs.Functions.{function_names}
use Rattle.component_imports.specs.Interface.{interface_name}
use Rattle.component_imports.specs.Interfaces.{ids_of, asked, is_needed, names_from, HasInterfaceAt, AreNeededImported}
use Rattle.component_imports.specs.Ready.{AreWritable}
use Rattle.component_imports.specs.World.{AreFunctionsAt, IsWorldUnready}
use Rattle.core_links.specs.Names.{Names}
use Rattle.core_links.specs.Needed.{IsKeyOf, IsNeeded}
use Rattle.right_components.specs.Passed.link_table-Linking.{Linking, types_of}
use Rattle.right_components.specs.Passed.link_table-Table.{ImportEntry}
use Rattle.right_components.specs.Passed.link_table-Types.{HasTree}
use Rattle.linked_imports.specs.declared.imports.Found.{Found}
use Rattle.linked_imports.specs.declared.imports.Imported.{Imported}

-- ---- functions of a world

-- the interface with that id, and no other, has the key; what has none is the world's own
abbrev pub IsInterfaceOf : Names → Option WorldKey → Option ℕ → Type 0
IsInterfaceOf n None None = Unit {0}
IsInterfaceOf n None (Some id) = ⊥
IsInterfaceOf n (Some key) None = ⊥
IsInterfaceOf n (Some key) (Some id) = IsKeyOf n key id × ((j : ℕ) → IsKeyOf n key j → j ≡ id)

-- that function is found
abbrev pub IsFound : Names → Option WorldKey → Function → Option Found → Type 0
IsFound n key f None = ⊥
IsFound n key f (Some x) = IsInterfaceOf n key x.interface × (x.function.now ≡ f)

-- ---- a root that has what is needed

-- the root has an instance of each interface that is needed, the types of the world itself that these functions and other types are made
-- of, and the world's own functions from an index on; it imports nothing else
pub record HasImports (r : Root) (types : List TypeDef) (world : ℕ) (instances : List (Option ℕ)) (first : ℕ) (others : List ℕ) (own : List Function) (linked : List (List Function)) : Type 0 where
  pub good : RootIsGood r types
  pub needed : List (List ℕ)
  pub needed_are : AreNeededTypes (length linked) types (asked (ids_of own ++ others) linked) needed
  pub has_interfaces : (i : ℕ) (ids : List ℕ) (fs : List Function) → slice_get needed i ≡ Some ids → slice_get linked i ≡ Some fs → is_needed ids fs ≡ true → HasInterfaceAt r types instances i ids fs
  pub ids : List ℕ
  pub ids_are : AreEnds (IsMadeOfWithin (belongs.World world) types) (Has (others ++ ids_of own)) ids
  pub has_types : (id : ℕ) → Has ids id → (i : ℕ) × Stands (root_label (interface_names r)) types (root_scope r).types (Id id) (Index i)
  pub has_functions : AreFunctionsAt r first types own
  pub names : root_names r ≡ names_from (interface_name r) 0 needed linked ++ (names_of_types (root_setting r) types ids ++ function_names own)

-- so it is with what is remembered beside the root, and indices of these other types are remembered
pub record HoldsImports (i : Imported) (names : InterfaceNames) (types : List TypeDef) (world : ℕ) (others : List ℕ) (own : List Function) (linked : List (List Function)) : Type 0 where
  pub interfaces : interface_names i.root ≡ names
  pub own_names : i.own ≡ function_names own
  pub has : HasImports i.root types world i.instances.items i.first others own linked
  pub remembered : (id : ℕ) → Has others id → IsRemembered (index_of i.root.known) id

-- nothing but sizes and memory stands in the way of it
pub record CanImport (names : InterfaceNames) (types : List TypeDef) (world : ℕ) (others : List ℕ) (own : List Function) (linked : List (List Function)) : Type 0 where
  pub interfaces : (r : Root) → interface_names r ≡ names → root_names r ≡ [] → AreWritable r types (ids_of own ++ others) linked
  pub functions : (r s : Root) (instances : List (Option ℕ)) → interface_names r ≡ names → root_names r ≡ [] → AreNeededImported r s types instances (ids_of own ++ others) linked → IsWorldUnready s types world others own → ⊥

-- no more is imported, and all that was there stays
pub record Keeps (old new : Root) (types : List TypeDef) : Type 0 where
  pub interfaces : interface_names new ≡ interface_names old
  pub names : root_names new ≡ root_names old
  pub types_stay : Begins (root_scope old).types (root_scope new).types
  pub functions_stay : Begins (root_scope old).functions (root_scope new).functions
  pub instances_stay : (root_scope new).instances ≡ (root_scope old).instances
  pub good : RootIsGood new types

-- nor is anything remembered
pub record StaysBeside (old new : Imported) : Type 0 where
  pub known : index_of new.root.known ≡ index_of old.root.known
  pub instances : new.instances ≡ old.instances
  pub own : new.own ≡ old.own
  pub first : new.first ≡ old.first

-- ---- functions that may be taken

-- the root imports the function under its name, among others from an index on, or the instance of its interface has it
abbrev pub IsThere : Imported → List TypeDef → Option ℕ → Function → Type 0
IsThere i types None f = (own : List Function) × Has own f × (i.own ≡ function_names own) × AreFunctionsAt i.root i.first types own
IsThere i types (Some id) f = (k : ℕ) × (slice_get i.instances.items id ≡ Some (Some k)) × InstanceHasFunction i.root k (imported (interface_name i.root id)) types (string_bytes f.name) f.params.items f.result

-- so it is of each for which a core import stands
abbrev pub AreThere : Linking → Imported → Type 0
AreThere l i = (key : Option WorldKey) (f : Function) (interface : Option ℕ) → IsNeeded l.names l.main.imports key f → IsInterfaceOf l.names key interface → IsThere i (types_of l) interface f

-- the label of a function of the world itself, or of the instance of an interface
abbrev pub label_of : InterfaceNames → Option ℕ → Function → Label
label_of names None f = import_label (string_bytes f.name)
label_of names (Some id) f = record { site = imported (get_or names id []); name = string_bytes f.name }

-- the item is of the root itself, or an instance has it under its name
pub data ComesFrom (r : Root) (l : Label) (i : Item) : Type 0 where
  of_root : l.site ≡ root_import → ComesFrom r l i
  of_instance : (k : ℕ) (items : Items) → item_at (root_scope r).instances k ≡ an_instance l.site items → item_named l.name items ≡ i → ComesFrom r l i

-- the function at an index is that one
pub record IsIndexOf (r : Root) (types : List TypeDef) (interface : Option ℕ) (f : Function) (i : ℕ) : Type 0 where
  pub tree : WitTree
  pub unfolds : HasTree types f tree
  pub is : item_at (root_scope r).functions i ≡ a_function (from_import (label_of (interface_names r) interface f)) (written (root_label (interface_names r)) tree)
  pub from : ComesFrom r (label_of (interface_names r) interface f) (a_function (from_import (label_of (interface_names r) interface f)) (written (root_label (interface_names r)) tree))

-- it is that of an entry
abbrev pub IsIndexOfEntry : Linking → Root → ImportEntry → ℕ → Type 0
IsIndexOfEntry l r e i = (interface : Option ℕ) × IsInterfaceOf l.names e.key interface × IsIndexOf r (types_of l) interface e.function i
