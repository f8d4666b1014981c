-- What of a world a component needs: the functions for which core imports stand, and the types of which these and the functions that the
-- world exports are made (Component Model, Build Targets; WIT, Types).
use Rattle.std.specs.Prelude.{◌≡◌, ℕ, List, [], ◌++◌, map, get_or, Some, None}
use Rattle.wit_order.specs.Order.{Has}
use Rattle.wit_reach.specs.Ids.{function_ids}
use Rattle.wit_reach.specs.Needed.{BelongsTo}
use Rattle.wit_reach.specs.Paths.{AreRising, Reaches}
use Rattle.wit_reach.specs.Types.{IsMadeOf}
use Rattle.wit_types.specs.declared.function.Function.{Function}
use Rattle.wit_types.specs.declared.world_key.WorldKey.{WorldKey}
use Rattle.link_table.specs.Passed.type_meaning-Items.{Entry}
use Rattle.type_sinks.specs.Root.{InterfaceNames}
use Rattle.link_table.specs.Passed.core_links-Needed.{IsKeyOf, IsNeeded}
use Rattle.link_table.specs.Linking.{Linking, types_of, IsLinked}

-- ---- functions and types

-- a core import stands for the function, which is one of the interface with that id
abbrev pub IsFunctionNeeded : Linking → ℕ → Function → Type 0
IsFunctionNeeded l id f = (key : WorldKey) × IsKeyOf l.names key id × IsNeeded l.names l.main.imports (Some key) f

-- or one of the world itself
abbrev pub IsOwnNeeded : Linking → Function → Type 0
IsOwnNeeded l f = IsNeeded l.names l.main.imports None f

-- a function is made of the type over any number of steps, and is linked
pub record IsTypeNeeded (l : Linking) (id : ℕ) : Type 0 where
  pub function : Function
  pub linked : IsLinked l function
  pub start : ℕ
  pub starts : Has (function_ids function) start
  pub reaches : Reaches (IsMadeOf (types_of l)) start id

-- ---- interfaces

-- a type or a function of the interface is needed
pub data IsInterfaceNeeded (l : Linking) (id : ℕ) : Type 0 where
  by_type : (i : ℕ) → BelongsTo (types_of l) i id → IsTypeNeeded l i → IsInterfaceNeeded l id
  by_function : (f : Function) → IsFunctionNeeded l id f → IsInterfaceNeeded l id

-- interfaces that are needed stand first among what is imported, each once, in the order of their ids, and among them all of which a type or a
-- function is needed: so each stands behind those whose types it uses
pub record AreInOrder (l : Linking) (names : InterfaceNames) (imports : List Entry) : Type 0 where
  pub interfaces : List ℕ
  pub others : List (List ℕ)
  pub are : map (λ (e : Entry). e.name) imports ≡ map (λ (id : ℕ). get_or names id []) interfaces ++ others
  pub rising : AreRising interfaces
  pub each : (id : ℕ) → Has interfaces id → IsInterfaceNeeded l id
  pub all : (id i : ℕ) → BelongsTo (types_of l) i id → IsTypeNeeded l i → Has interfaces id
  pub linked : (key : WorldKey) (f : Function) → IsNeeded l.names l.main.imports (Some key) f → (id : ℕ) × IsKeyOf l.names key id × Has interfaces id
