-- An interface that is imported, as far as it is needed (WIT, Item: `interface`; Component Model, Explainer, Import and Export Definitions).
use Rattle.std.specs.Prelude.{◌≡◌, ◌⊎◌, ◌≤◌, ℕ, List, [], ◌∷◌, ◌++◌, length, get_or, Some, false, string_bytes}
use Rattle.std.specs.List.{AllByRecursion as Each}
use Rattle.distinct_names.specs.Names.{is_new}
use Rattle.wit_order.specs.Order.{Has}
use Rattle.wit_types.specs.declared.function.Function.{Function}
use Rattle.wit_types.specs.declared.interface.TypeDef.{TypeDef}
use Rattle.type_sinks.specs.Passed.type_meaning-Words.{imported}
use Rattle.type_sinks.specs.Passed.type_writing-declared-fault-Fault.{Fault}
use Rattle.type_sinks.specs.Passed.type_writing-Writing.{Setting, Begins, HasItsName, names_of_types, IsRemembered}
use Rattle.type_sinks.specs.Passed.type_writing-Refusals.{IsCause, AreTypesUnready}
use Rattle.type_sinks.specs.declared.root.Root.{Root}
use Rattle.type_sinks.specs.declared.inside.InterfaceTypes.{InterfaceTypes}
use Rattle.type_sinks.specs.Kept.{index_of}
use Rattle.type_sinks.specs.Inside.{instance_label}
use Rattle.type_sinks.specs.Views.{setting_over, root_scope, root_names, interface_names, RootIsGood, inside_names, inside_setting, InsideIsGood, IsGiven, IsInstanceWith, IsTypeOf, HasFunctionIn, HasTypeIn, InstanceHasFunction}
use Rattle.component_imports.specs.Functions.{function_names, HasFunctionOf, AreFunctionsUnready}

-- the name under which it is imported
abbrev pub interface_name : Root → ℕ → List ℕ
interface_name r interface = get_or (interface_names r) interface []

-- the type of an instance of an interface, over a root that has grown, exports those of the types that are the interface's and the functions, each
-- under its name, and nothing else
pub record IsFilled (root : Root) (t : InterfaceTypes) (types : List TypeDef) (interface : ℕ) (ids : List ℕ) (functions : List Function) : Type 0 where
  pub setting : inside_setting t ≡ setting_over root interface
  pub outside : Begins (root_scope root).types (root_scope t.root).types
  pub good : InsideIsGood t types
  pub names : inside_names t ≡ names_of_types (setting_over root interface) types ids ++ function_names functions
  pub named : Each (HasItsName (setting_over root interface) types (IsGiven t)) ids
  pub has : Each (HasFunctionOf t types) functions

-- the instance that is new has a function under its name
abbrev pub ImportHasFunction : Root → Root → ℕ → List TypeDef → Function → Type 0
ImportHasFunction old new interface types f = InstanceHasFunction new (length (root_scope old).instances) (imported (interface_name old interface)) types (string_bytes f.name) f.params.items f.result

-- the next instance is imported, and exports those of the types that are the interface's and the functions, each under its name, and nothing
-- else; all that was there stays
pub record IsInterfaceImported (old new : Root) (types : List TypeDef) (interface : ℕ) (ids : List ℕ) (functions : List Function) : Type 0 where
  pub interfaces : interface_names new ≡ interface_names old
  pub names : root_names new ≡ root_names old ++ interface_name old interface ∷ []
  pub types_stay : Begins (root_scope old).types (root_scope new).types
  pub functions_stay : (root_scope new).functions ≡ (root_scope old).functions
  pub instances_stay : Begins (root_scope old).instances (root_scope new).instances
  pub known : index_of new.known ≡ index_of old.known
  pub good : RootIsGood new types
  pub items : IsInstanceWith new (length (root_scope old).instances) (imported (interface_name old interface)) (names_of_types (setting_over old interface) types ids ++ function_names functions)
  pub homes : Each (HasItsName (setting_over old interface) types (λ id. index_of new.homes id ≡ Some (length (root_scope old).instances))) ids
  pub homes_stay : (id : ℕ) → IsRemembered (index_of old.homes) id → IsRemembered (index_of new.homes) id
  pub homes_only : (id k : ℕ) → index_of new.homes id ≡ Some k → (index_of old.homes id ≡ Some k) ⊎ IsTypeOf types id interface
  pub has : Each (ImportHasFunction old new interface types) functions

-- the interface has no name, or something is imported under it
abbrev pub IsNotImported : Root → ℕ → Type 0
IsNotImported r interface = (length (interface_names r) ≤ interface) ⊎ (is_new (root_names r) (interface_name r interface) ≡ false)

-- one of the types isn't ready, or one of the functions behind them, where these are ready and these names are given
abbrev pub AreItemsUnready : Setting → (ℕ → Type 0) → List (List ℕ) → List TypeDef → List ℕ → List Function → Type 0
AreItemsUnready s ready names types ids functions =
    AreTypesUnready s ready names types ids ⊎ AreFunctionsUnready (λ id. ready id ⊎ Has ids id) (names ++ names_of_types s types ids) functions

-- so it is of what the instance exports, or no instance is imported for the interface
abbrev pub IsUnready : Root → List TypeDef → ℕ → List ℕ → List Function → Type 0
IsUnready r types interface ids functions = AreItemsUnready (setting_over r interface) (λ _. ⊥) [] types ids functions ⊎ IsNotImported r interface

abbrev pub IsInterfaceCause : Root → List TypeDef → ℕ → List ℕ → List Function → Fault → Type 0
IsInterfaceCause r types interface ids functions = IsCause (IsUnready r types interface ids functions) (Unit {0})

-- ---- beside the instances from which types may be taken

-- the instance that is new, which is imported under a name, has a function under its name
abbrev pub HasFunctionBeside : Root → Root → ℕ → List ℕ → List TypeDef → Function → Type 0
HasFunctionBeside old new interface name types f =
    HasFunctionIn (instance_label (interface_names old) interface name) new (length (root_scope old).instances) (imported name) types (string_bytes f.name) f.params.items f.result

-- and a type
abbrev pub HasTypeBeside : Root → Root → ℕ → List ℕ → List TypeDef → ℕ → Type 0
HasTypeBeside old new interface name types id = HasTypeIn (instance_label (interface_names old) interface name) new (length (root_scope old).instances) (imported name) types id

-- the next instance is imported under the name, and exports those of the types that are the interface's and the functions, each under its name,
-- and nothing else; no type may be taken from it, and all that was there stays
pub record IsImportedBesideOthers (old new : Root) (types : List TypeDef) (interface : ℕ) (name : List ℕ) (ids : List ℕ) (functions : List Function) : Type 0 where
  pub interfaces : interface_names new ≡ interface_names old
  pub names : root_names new ≡ root_names old ++ name ∷ []
  pub types_stay : Begins (root_scope old).types (root_scope new).types
  pub functions_stay : (root_scope new).functions ≡ (root_scope old).functions
  pub instances_stay : Begins (root_scope old).instances (root_scope new).instances
  pub known : index_of new.known ≡ index_of old.known
  pub homes : index_of new.homes ≡ index_of old.homes
  pub good : RootIsGood new types
  pub items : IsInstanceWith new (length (root_scope old).instances) (imported name) (names_of_types (setting_over old interface) types ids ++ function_names functions)
  pub has_types : Each (HasItsName (setting_over old interface) types (HasTypeBeside old new interface name types)) ids
  pub has : Each (HasFunctionBeside old new interface name types) functions

-- one of the types isn't ready, or one of the functions behind them, or something is imported under the name
abbrev pub IsUnreadyBeside : Root → List TypeDef → ℕ → List ℕ → List ℕ → List Function → Type 0
IsUnreadyBeside r types interface name ids functions = AreItemsUnready (setting_over r interface) (λ _. ⊥) [] types ids functions ⊎ (is_new (root_names r) name ≡ false)
