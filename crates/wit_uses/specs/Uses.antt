-- Interfaces and worlds take types of other interfaces under names of their own alone (WIT, Use).
use Rattle.std.specs.Prelude.{◌≡◌, ◌⊎◌, ℕ, ◌+◌, true, List, Some, slice_get}
use Rattle.wit_joined.specs.Passed.wit_order-Order.{Has}
use Rattle.wit_joined.specs.Passed.wit_types-declared-kind-Type-TheVariants as ref
use Rattle.wit_joined.specs.Passed.wit_types-declared-kind-TypeDefKind-TheVariants as kind
use Rattle.wit_joined.specs.Passed.wit_types-declared-interface-Interface.{Interface}
use Rattle.wit_joined.specs.Passed.wit_types-declared-interface-TypeDef.{TypeDef}
use Rattle.wit_joined.specs.Passed.wit_types-declared-interface-TypeOwner.{TypeOwner}
use Rattle.wit_joined.specs.Passed.wit_types-declared-interface-TypeOwner-TheVariants as belongs
use Rattle.wit_joined.specs.Passed.wit_types-declared-world-World.{World}
use Rattle.wit_joined.specs.Passed.wit_reach-Deps.{AreUsed}
use Rattle.wit_joined.specs.Passed.wit_reach-Holding.{listed_types, functions_ids}
use Rattle.wit_joined.specs.Passed.wit_reach-Ids.{kind_ids}
use Rattle.wit_joined.specs.Passed.wit_reach-Lists.{type_items}
use Rattle.wit_joined.specs.Passed.wit_reach-Made.{is_open, IsMadeOfWithin}
use Rattle.wit_joined.specs.Passed.wit_reach-Paths.{Reaches}
use Rattle.wit_joined.specs.Passed.wit_reach-Types.{IsOfItem}

-- ---- by steps

-- it is the owner's, or belongs nowhere
abbrev pub IsOwn : TypeOwner → TypeOwner → Type 0
IsOwn by o = (o ≡ belongs.None) ⊎ (o ≡ by)

-- a type that is listed is another name of one of an interface
pub record IsUse (listed : ℕ → Type 0) (k i : ℕ) (d e : TypeDef) : Type 0 where
  pub is_listed : listed k
  pub kind_is : d.kind ≡ kind.Alias (ref.Id i)
  pub interface : ℕ
  pub of : e.owner ≡ belongs.Interface interface

-- an owner begins with what is its own, and all of its own that it sees that this is made of is made of its own, but for uses that it lists; it
-- lists what is its and doesn't belong nowhere
pub record TakesByUse (types : List TypeDef) (by : TypeOwner) (listed start : ℕ → Type 0) : Type 0 where
  pub starts : (s : ℕ) (d : TypeDef) → start s → slice_get types s ≡ Some d → IsOwn by d.owner
  pub parts : (s k i : ℕ) (d e : TypeDef) → start s → Reaches (IsMadeOfWithin by types) s k → slice_get types k ≡ Some d → is_open by d.owner ≡ true → Has (kind_ids d.kind) i → slice_get types i ≡ Some e
      → IsOwn by e.owner ⊎ IsUse listed k i d e
  pub lists : (s k : ℕ) (d : TypeDef) → start s → Reaches (IsMadeOfWithin by types) s k → slice_get types k ≡ Some d → d.owner ≡ by → listed k

-- a type of the interface, or one that a function of it takes or gives
abbrev pub IsOfInterface : Interface → ℕ → Type 0
IsOfInterface d s = Has (listed_types d) s ⊎ Has (functions_ids d) s

-- so do interfaces that stand behind so many others
abbrev pub InterfacesTakeByUse : ℕ → List TypeDef → List Interface → Type 0
InterfacesTakeByUse others types own = (k : ℕ) (d : Interface) → slice_get own k ≡ Some d → TakesByUse types (belongs.Interface (others + k)) (Has (listed_types d)) (IsOfInterface d)

-- and worlds, which import all that they list
abbrev pub WorldsTakeByUse : List TypeDef → List World → Type 0
WorldsTakeByUse types worlds = (i : ℕ) (w : World) → slice_get worlds i ≡ Some w → TakesByUse types (belongs.World i) (Has (type_items w.imports.entries)) (IsOfItem w)

pub record TakeByUse (types : List TypeDef) (interfaces : List Interface) (worlds : List World) : Type 0 where
  pub interfaces_take : InterfacesTakeByUse 0 types interfaces
  pub worlds_take : WorldsTakeByUse types worlds

-- ---- all that is seen

-- the owner's own, what belongs nowhere, and what is of an interface of which it uses types
abbrev pub IsTaken : TypeOwner → (ℕ → Type 0) → TypeOwner → Type 0
IsTaken by uses belongs.None = Unit {0}
IsTaken by uses (belongs.Interface j) = (belongs.Interface j ≡ by) ⊎ uses j
IsTaken by uses (belongs.World v) = belongs.World v ≡ by

-- all that an owner sees that these types are made of is so
abbrev pub SeesByUse : List TypeDef → TypeOwner → (ℕ → Type 0) → (ℕ → Type 0) → Type 0
SeesByUse types by uses start = (s i : ℕ) (d : TypeDef) → start s → Reaches (IsMadeOfWithin by types) s i → slice_get types i ≡ Some d → IsTaken by uses d.owner

-- what is taken by use is of interfaces of which listed types use one
abbrev pub TakenAreUsed : Type 0
TakenAreUsed = (types : List TypeDef) (by : TypeOwner) (listed starts : List ℕ) → TakesByUse types by (Has listed) (Has starts) → SeesByUse types by (AreUsed types listed) (Has starts)
