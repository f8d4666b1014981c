-- The functions of a world that are imported, and the types of the world that they are made of (WIT, Item: `world`; Component Model,
-- Explainer, Import and Export Definitions).
use Rattle.std.specs.Prelude.{◌≡◌, ℕ, ◌+◌, List, [], ◌∷◌, ◌++◌, length, string_bytes}
use Rattle.wit_order.specs.Order.{Has}
use Rattle.wit_types.specs.declared.function.Function.{Function}
use Rattle.wit_types.specs.declared.interface.TypeDef.{TypeDef}
use Rattle.wit_types.specs.declared.interface.TypeOwner.TheVariants as belongs
use Rattle.wit_reach.specs.Paths.{AreEnds}
use Rattle.wit_reach.specs.Made.{IsMadeOfWithin}
use Rattle.type_sinks.specs.Passed.type_meaning-Scope.{import_label}
use Rattle.type_sinks.specs.Passed.type_writing-Functions.{function_form, FunctionStands}
use Rattle.type_sinks.specs.Passed.type_writing-Refusals.{AreUnready}
use Rattle.type_sinks.specs.Passed.type_writing-Writing.{Begins, names_of_types, IsRemembered}
use Rattle.type_sinks.specs.Root.{root_label}
use Rattle.type_sinks.specs.declared.root.Root.{Root}
use Rattle.type_sinks.specs.Kept.{index_of}
use Rattle.type_sinks.specs.Views.{root_scope, root_names, root_setting, interface_names, RootIsGood, IsFunctionAt}
use Rattle.component_imports.specs.Functions.{function_names}
use Rattle.component_imports.specs.Interface.{AreItemsUnready}
use Rattle.component_imports.specs.Interfaces.{ids_of}

-- these functions are imported under their names, one after the other from an index on
abbrev pub AreFunctionsAt : Root → ℕ → List TypeDef → List Function → Type 0
AreFunctionsAt r i types [] = Unit {0}
AreFunctionsAt r i types (f ∷ fs) = IsFunctionAt r i (import_label (string_bytes f.name)) types f.params.items f.result × AreFunctionsAt r (i + 1) types fs

-- the types of the world that they and the other types are made of are imported, then they are, each under its name, and nothing else; all
-- that was there stays
pub record AreWorldItemsImported (old new : Root) (types : List TypeDef) (world : ℕ) (others : List ℕ) (functions : List Function) : Type 0 where
  pub interfaces : interface_names new ≡ interface_names old
  pub homes : index_of new.homes ≡ index_of old.homes
  pub types_stay : Begins (root_scope old).types (root_scope new).types
  pub functions_stay : Begins (root_scope old).functions (root_scope new).functions
  pub instances_stay : (root_scope new).instances ≡ (root_scope old).instances
  pub good : RootIsGood new types
  pub ids : List ℕ
  pub are : AreEnds (IsMadeOfWithin (belongs.World world) types) (Has (others ++ ids_of functions)) ids
  pub remembered : (id : ℕ) → Has ids id → IsRemembered (index_of new.known) id
  pub names : root_names new ≡ root_names old ++ (names_of_types (root_setting old) types ids ++ function_names functions)
  pub has : AreFunctionsAt new (length (root_scope old).functions) types functions

-- one of its types isn't ready, or one of the functions behind them
abbrev pub AreWorldItemsUnready : Root → List TypeDef → List ℕ → List Function → Type 0
AreWorldItemsUnready r types ids functions = AreItemsUnready (root_setting r) (IsRemembered (index_of r.known)) (root_names r) types ids functions

abbrev pub IsWorldUnready : Root → List TypeDef → ℕ → List ℕ → List Function → Type 0
IsWorldUnready r types world others functions = (ids : List ℕ) × AreEnds (IsMadeOfWithin (belongs.World world) types) (Has (others ++ ids_of functions)) ids × AreWorldItemsUnready r types ids functions

-- ---- functions that are exported

-- these are the indices of types of these functions, one by one
abbrev pub AreTypesOf : Root → List TypeDef → List Function → List ℕ → Type 0
AreTypesOf r types [] [] = Unit {0}
AreTypesOf r types [] (i ∷ is) = ⊥
AreTypesOf r types (f ∷ fs) [] = ⊥
AreTypesOf r types (f ∷ fs) (i ∷ is) = FunctionStands (root_label (interface_names r)) types (root_scope r).types f.params.items f.result i × AreTypesOf r types fs is

-- the type of one is made of what isn't written
abbrev pub HasUnwrittenType : (ℕ → Type 0) → List Function → Type 0
HasUnwrittenType ready functions = (f : Function) × Has functions f × AreUnready ready (function_form f.params.items f.result).parts

-- types of functions are written behind what is there, and nothing else
pub record AreTypesWritten (old new : Root) (types : List TypeDef) (functions : List Function) (indices : List ℕ) : Type 0 where
  pub interfaces : interface_names new ≡ interface_names old
  pub homes : index_of new.homes ≡ index_of old.homes
  pub names : root_names new ≡ root_names old
  pub types_stay : Begins (root_scope old).types (root_scope new).types
  pub functions_stay : (root_scope new).functions ≡ (root_scope old).functions
  pub instances_stay : (root_scope new).instances ≡ (root_scope old).instances
  pub good : RootIsGood new types
  pub are : AreTypesOf new types functions indices
