-- What interfaces hold: types that belong to them, and functions, made of what is theirs or of earlier interfaces (WIT, Item: `interface`,
-- Use).
use Rattle.std.specs.Prelude.{◌≡◌, ℕ, ◌+◌, ◌<◌, ◌≤◌, List, Some, String, length, map, flat_map, slice_get, string_bytes}
use Rattle.std.specs.declared.alloc.Global.{Global}
use Rattle.wit_types.specs.declared.function.Function.{Function}
use Rattle.wit_types.specs.declared.interface.Interface.{Interface}
use Rattle.wit_types.specs.declared.interface.TypeDef.{TypeDef}
use Rattle.wit_types.specs.declared.interface.TypeOwner.{TypeOwner}
use Rattle.wit_types.specs.declared.interface.TypeOwner.TheVariants as belongs
use Rattle.wit_types.specs.Passed.wit_order-Order.{Has}
use Rattle.wit_reach.specs.Paths.{Reaches}
use Rattle.wit_reach.specs.Ids.{function_ids}
use Rattle.wit_reach.specs.Types.{IsMadeOf}
use Rattle.wit_reach.specs.Deps.{IsInterfaceDep}
use Rattle.wit_reach.specs.Lists.{AreOwnersThere}
use Rattle.wit_reach.specs.Needed.{BelongsTo}

-- the ids of its types, and those of which its functions are made
abbrev pub listed_types : Interface → List ℕ
listed_types d = map (λ (e : String Global × ℕ). e.1) d.types.entries

abbrev pub functions_ids : Interface → List ℕ
functions_ids d = flat_map (λ (e : String Global × Function). function_ids e.1) d.functions.entries

-- ---- what uses what

-- it is of that interface or of an earlier one, or belongs nowhere
abbrev pub IsUpTo : ℕ → TypeOwner → Type 0
IsUpTo a belongs.None = Unit {0}
IsUpTo a (belongs.Interface j) = j ≤ a
IsUpTo a (belongs.World w) = ⊥

-- all of which a type is made over any number of steps, with itself
abbrev pub IsMadeUpTo : List TypeDef → ℕ → ℕ → Type 0
IsMadeUpTo types a s = (k : ℕ) (d : TypeDef) → Reaches (IsMadeOf types) s k → slice_get types k ≡ Some d → IsUpTo a d.owner

-- types of interfaces are made of types of these and of earlier ones
abbrev pub TypesUseEarlier : List TypeDef → Type 0
TypesUseEarlier types = (i a : ℕ) → BelongsTo types i a → IsMadeUpTo types a i

-- so are those that stand in interfaces behind so many others
abbrev pub ListedUseEarlier : ℕ → List TypeDef → List Interface → Type 0
ListedUseEarlier others types own = (k s : ℕ) (d : Interface) → slice_get own k ≡ Some d → Has (listed_types d) s → IsMadeUpTo types (others + k) s

-- and functions of these interfaces
abbrev pub FunctionsUseEarlier : ℕ → List TypeDef → List Interface → Type 0
FunctionsUseEarlier others types own = (k s : ℕ) (d : Interface) → slice_get own k ≡ Some d → Has (functions_ids d) s → IsMadeUpTo types (others + k) s

-- ---- what is whose

-- types with names belong somewhere
abbrev pub AreNamedOwned : List TypeDef → Type 0
AreNamedOwned types = (i : ℕ) (d : TypeDef) (x : String Global) → slice_get types i ≡ Some d → d.name ≡ Some x → d.owner ≡ belongs.None → ⊥

-- a type that belongs to the interface, and has the name under which it stands there
pub record IsTypeUnder (types : List TypeDef) (interface : ℕ) (e : String Global × ℕ) : Type 0 where
  pub type_def : TypeDef
  pub there : slice_get types e.1 ≡ Some type_def
  pub its : type_def.owner ≡ belongs.Interface interface
  pub own_name : String Global
  pub named : type_def.name ≡ Some own_name
  pub is : string_bytes own_name ≡ string_bytes e.0

-- so are all types of interfaces that stand behind so many others
abbrev pub AreTheirs : ℕ → List TypeDef → List Interface → Type 0
AreTheirs others types own = (k : ℕ) (d : Interface) (e : String Global × ℕ) → slice_get own k ≡ Some d → Has d.types.entries e → IsTypeUnder types (others + k) e

-- and each type that belongs to one of them stands there
abbrev pub AreListed : ℕ → List TypeDef → List Interface → Type 0
AreListed others types own = (i k : ℕ) (d : Interface) → slice_get own k ≡ Some d → BelongsTo types i (others + k) → Has (listed_types d) i

-- interfaces that stand behind so many others, whose types and functions are made of what is theirs or of earlier ones
pub record HoldTheirTypes (others : ℕ) (types : List TypeDef) (own : List Interface) : Type 0 where
  pub named : AreNamedOwned types
  pub theirs : AreTheirs others types own
  pub types_use : ListedUseEarlier others types own
  pub functions_use : FunctionsUseEarlier others types own

-- where all types of interfaces stand in them, all are made of types of these and of earlier ones
abbrev pub ListedTypesAreAll : Type 0
ListedTypesAreAll = (types : List TypeDef) (interfaces : List Interface) → AreOwnersThere (length interfaces) types → AreListed 0 types interfaces → ListedUseEarlier 0 types interfaces → TypesUseEarlier types

-- and each uses types of interfaces before it alone
abbrev pub HeldAreInOrder : Type 0
HeldAreInOrder = (others : ℕ) (types : List TypeDef) (own : List Interface) → HoldTheirTypes others types own
    → (k j : ℕ) (d : Interface) → slice_get own k ≡ Some d → IsInterfaceDep types d j → j < others + k
