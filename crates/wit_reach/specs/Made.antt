-- What types are made of over any number of steps, and how an owner sees it (WIT, Types).
use Rattle.std.specs.Prelude.{◌≡◌, ℕ, Bool, true, false, List, Some, slice_get, nat_eq}
use Rattle.wit_types.specs.declared.interface.TypeDef.{TypeDef}
use Rattle.wit_types.specs.declared.interface.TypeOwner.{TypeOwner}
use Rattle.wit_types.specs.declared.interface.TypeOwner.TheVariants as belongs
use Rattle.wit_types.specs.Passed.wit_order-Order.{Has}
use Rattle.wit_reach.specs.Paths.{Reaches}
use Rattle.wit_reach.specs.Ids.{kind_ids}
use Rattle.wit_reach.specs.Types.{IsMadeOf}
use Rattle.wit_reach.specs.declared.made.Sight.{Sight}
use Rattle.wit_reach.specs.declared.made.Sight.TheVariants as sight

-- an owner sees into its own types and into those that belong nowhere, which have no name
abbrev pub is_open : TypeOwner → TypeOwner → Bool
is_open by belongs.None = true
is_open (belongs.Interface j) (belongs.Interface i) = nat_eq i j
is_open (belongs.World w) (belongs.Interface i) = false
is_open belongs.None (belongs.Interface i) = false
is_open (belongs.World w) (belongs.World v) = nat_eq v w
is_open (belongs.Interface j) (belongs.World v) = false
is_open belongs.None (belongs.World v) = false

-- type i is made of type j, and the owner sees into i
abbrev pub IsMadeOfWithin : TypeOwner → List TypeDef → ℕ → ℕ → Type 0
IsMadeOfWithin by ds i j = (d : TypeDef) × (slice_get ds i ≡ Some d) × (is_open by d.owner ≡ true) × Has (kind_ids d.kind) j

-- what an owner sees that a type is made of, it is made of
abbrev pub SeenIsMade : Type 0
SeenIsMade = (by : TypeOwner) (ds : List TypeDef) (i j : ℕ) → Reaches (IsMadeOfWithin by ds) i j → Reaches (IsMadeOf ds) i j

-- ---- a walk

-- it sees into all types, or into those into which an owner sees
abbrev pub sees_into : Sight → TypeOwner → Bool
sees_into sight.All owner = true
sees_into (sight.Of by) owner = is_open by owner

abbrev pub Sees : Sight → List TypeDef → ℕ → ℕ → Type 0
Sees sight.All ds i j = IsMadeOf ds i j
Sees (sight.Of by) ds i j = IsMadeOfWithin by ds i j
