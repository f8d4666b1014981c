-- Constructors that give their own resource (WIT, Item: `resource`).
use Rattle.std.specs.Prelude.{◌≡◌, ◌<◌, ℕ, List, Option, Some, None, slice_get}
use Rattle.wit_types.specs.declared.interface.TypeDef.{TypeDef}
use Rattle.wit_types.specs.declared.kind.«Type».TheVariants.{Id}
use Rattle.wit_types.specs.declared.kind.Handle.TheVariants.{Own}
use Rattle.wit_types.specs.declared.kind.TypeDefKind.TheVariants as kind
use Rattle.wit_types.specs.declared.function.Function.{Function}
use Rattle.wit_types.specs.declared.function.FunctionKind.TheVariants.{Constructor}

-- type i is another name of the earlier type j
abbrev pub IsAlias : List TypeDef → ℕ → ℕ → Type 0
IsAlias types i j = (d : TypeDef) × (slice_get types i ≡ Some d) × (d.kind ≡ kind.Alias (Id j)) × (j < i)

-- type i is the own reference of j
abbrev pub IsOwn : List TypeDef → ℕ → ℕ → Type 0
IsOwn types i j = (d : TypeDef) × (slice_get types i ≡ Some d) × (d.kind ≡ kind.Handle (Own j))

abbrev pub IsResource : List TypeDef → ℕ → Type 0
IsResource types i = (d : TypeDef) × (slice_get types i ≡ Some d) × (d.kind ≡ kind.Resource)

abbrev pub IsTarget : List TypeDef → ℕ → Option ℕ → Type 0
IsTarget types i None = (j : ℕ) → IsAlias types i j → ⊥
IsTarget types i (Some j) = IsAlias types i j

abbrev pub IsOwned : List TypeDef → ℕ → Option ℕ → Type 0
IsOwned types i None = (j : ℕ) → IsOwn types i j → ⊥
IsOwned types i (Some j) = IsOwn types i j

-- by its aliases type i is type j
pub data Stands (types : List TypeDef) : ℕ → ℕ → Type 0 where
  itself : (i : ℕ) → ((j : ℕ) → IsAlias types i j → ⊥) → Stands types i i
  alias : (i j k : ℕ) → IsAlias types i j → Stands types j k → Stands types i k

-- where a value is given, type i stands for the own reference of the resource j: by its aliases it is one of what is by its aliases that
-- resource, or it is the resource
pub data IsReference (types : List TypeDef) (i j : ℕ) : Type 0 where
  by_handle : (handle owned : ℕ) → Stands types i handle → IsOwn types handle owned → Stands types owned j → IsReference types i j
  by_resource : Stands types i j → IsResource types j → IsReference types i j

-- a constructor of a resource, whose result stands for the own reference of what is by its aliases that resource
pub record IsShorthand (types : List TypeDef) (f : Function) : Type 0 where
  pub resource : ℕ
  pub result : ℕ
  pub leaf : ℕ
  pub constructor : f.kind ≡ Constructor resource
  pub answers : f.result ≡ Some (Id result)
  pub resource_stands : Stands types resource leaf
  pub refers : IsReference types result leaf
