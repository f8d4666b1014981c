-- The types of a world: those that its items are made of, as far as they are the world's or belong nowhere (WIT, Item: `world`).
use Rattle.std.specs.Prelude.{◌≡◌, ℕ, ◌<◌, ◌⊎◌, Bool, true, false, List, Some, length, slice_get, nat_eq}
use Rattle.wit_types.specs.declared.interface.TypeDef.{TypeDef}
use Rattle.wit_types.specs.declared.interface.TypeOwner.{TypeOwner}
use Rattle.wit_types.specs.declared.interface.TypeOwner.TheVariants as belongs
use Rattle.wit_types.specs.declared.world.World.{World}
use Rattle.wit_types.specs.Passed.wit_order-Order.{Has}
use Rattle.wit_reach.specs.Paths.{AreRising, AreBackward, AreEnds}
use Rattle.wit_reach.specs.Ids.{kind_ids, side_ids}

-- it belongs to the world, or nowhere
abbrev pub is_local : ℕ → TypeOwner → Bool
is_local w (belongs.World v) = nat_eq v w
is_local w (belongs.Interface i) = false
is_local w belongs.None = true

abbrev pub IsLocalAt : ℕ → List TypeDef → ℕ → Type 0
IsLocalAt w ds i = (d : TypeDef) × (slice_get ds i ≡ Some d) × (is_local w d.owner ≡ true)

-- type i is made of type j
abbrev pub IsMadeOf : List TypeDef → ℕ → ℕ → Type 0
IsMadeOf ds i j = (d : TypeDef) × (slice_get ds i ≡ Some d) × Has (kind_ids d.kind) j

-- types are made of earlier ones alone
abbrev pub AreTypesBackward : List TypeDef → Type 0
AreTypesBackward ds = AreBackward (IsMadeOf ds)

abbrev pub UsesLocal : ℕ → List TypeDef → ℕ → ℕ → Type 0
UsesLocal w ds i j = IsMadeOf ds i j × IsLocalAt w ds j

-- those types of a list that belong to the world, or nowhere, in rising order
pub record AreLocalOf (w : ℕ) (ds : List TypeDef) (ids found : List ℕ) : Type 0 where
  pub all : (i : ℕ) → Has ids i → IsLocalAt w ds i → Has found i
  pub only : (i : ℕ) → Has found i → Has ids i × IsLocalAt w ds i
  pub rising : AreRising found

-- the ids of a list stand for types
abbrev pub AreTypesThere : List TypeDef → List ℕ → Type 0
AreTypesThere ds ids = (i : ℕ) → Has ids i → i < length ds

abbrev pub AreSidesThere : List TypeDef → World → Type 0
AreSidesThere ds world = AreTypesThere ds (side_ids world.imports.entries) × AreTypesThere ds (side_ids world.exports.entries)

-- an item of the world is made of it, or is it
abbrev pub IsOfItem : World → ℕ → Type 0
IsOfItem world i = Has (side_ids world.imports.entries) i ⊎ Has (side_ids world.exports.entries) i

-- the types of a world, each once, in rising order
abbrev pub AreWorldTypes : ℕ → List TypeDef → World → List ℕ → Type 0
AreWorldTypes w ds world order = AreEnds (UsesLocal w ds) (λ (s : ℕ). IsOfItem world s × IsLocalAt w ds s) order
