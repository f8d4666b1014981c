-- Functions that may be linked, with all types that they reach (Component Model, Explainer, Type Definitions).
use Rattle.std.specs.Prelude.{◌≡◌, ◌⊎◌, ℕ, ◌||◌, List, map, flat_map, slice_get, Option, Some, None}
use Rattle.std.specs.Borrow.{Bor}
use Rattle.std.specs.List.{list_any}
use Rattle.wit_types.specs.declared.function.Function.{Function}
use Rattle.wit_types.specs.declared.function.FunctionKind.{FunctionKind}
use Rattle.wit_types.specs.declared.function.FunctionKind.TheVariants as kind
use Rattle.wit_types.specs.declared.function.Param.{Param}
use Rattle.wit_types.specs.declared.interface.TypeDef.{TypeDef}
use Rattle.wit_types.specs.Passed.wit_order-Order.{Has}
use Rattle.wit_reach.specs.Ids.{function_ids}
use Rattle.wit_reach.specs.Paths.{Reaches}
use Rattle.wit_reach.specs.Types.{IsMadeOf}
use Rattle.linked_types.specs.Kinds.{is_error_context, part_is, if_async, kind_fault}
use Rattle.linked_types.specs.declared.fault.TypeFault.{TypeFault}
use Rattle.linked_types.specs.declared.fault.TypeFault.TheVariants.{NotYet, AsyncReached, OutOfMemory}

-- ---- functions by themselves

abbrev pub function_kind_fault : FunctionKind → Option TypeFault
function_kind_fault kind.Freestanding = None
function_kind_fault kind.AsyncFreestanding = Some AsyncReached
function_kind_fault (kind.AsyncMethod r) = Some AsyncReached
function_kind_fault (kind.AsyncStatic r) = Some AsyncReached
function_kind_fault (kind.Method r) = Some NotYet
function_kind_fault (kind.Static r) = Some NotYet
function_kind_fault (kind.Constructor r) = Some NotYet

-- the first, if there is one
abbrev pub or_else : Option TypeFault → Option TypeFault → Option TypeFault
or_else None other = other
or_else (Some fault) other = Some fault

abbrev pub function_fault : Function → Option TypeFault
function_fault f = or_else (function_kind_fault f.kind) (if_async (list_any (λ (p : Param). is_error_context p.ty) f.params.items || part_is f.result))

-- behind references
abbrev pub functions : List (Bor Function) → List Function
functions fs = map (λ f. f.now) fs

-- the types that functions take and give
abbrev pub ids_of : List Function → List ℕ
ids_of fs = flat_map function_ids fs

abbrev pub AreLinked : List Function → Type 0
AreLinked fs = (f : Function) → Has fs f → function_fault f ≡ None

abbrev pub IsFunctionCause : List Function → TypeFault → Type 0
IsFunctionCause fs fault = ((f : Function) × Has fs f × (function_fault f ≡ Some fault)) ⊎ (fault ≡ OutOfMemory)

-- ---- types

abbrev pub AreTypesLinked : List TypeDef → List ℕ → Type 0
AreTypesLinked types ids = (i : ℕ) (d : TypeDef) → Has ids i → slice_get types i ≡ Some d → kind_fault d.kind ≡ None

abbrev pub IsTypeCause : List TypeDef → List ℕ → TypeFault → Type 0
IsTypeCause types ids fault = (i : ℕ) × (d : TypeDef) × Has ids i × (slice_get types i ≡ Some d) × (kind_fault d.kind ≡ Some fault)

-- ---- all that is reached

-- a function is made of it over any number of steps
abbrev pub IsReached : List TypeDef → List Function → ℕ → Type 0
IsReached types fs i = (s : ℕ) × Has (ids_of fs) s × Reaches (IsMadeOf types) s i

pub record MayBeLinked (types : List TypeDef) (fs : List Function) : Type 0 where
  pub functions : AreLinked fs
  pub types_are : (i : ℕ) (d : TypeDef) → IsReached types fs i → slice_get types i ≡ Some d → kind_fault d.kind ≡ None

-- a function isn't, or a type that one reaches isn't
abbrev pub IsCause : List TypeDef → List Function → TypeFault → Type 0
IsCause types fs fault = IsFunctionCause fs fault ⊎ ((i : ℕ) × (d : TypeDef) × IsReached types fs i × (slice_get types i ≡ Some d) × (kind_fault d.kind ≡ Some fault))
