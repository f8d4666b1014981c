-- A world with all that it includes (WIT, Item: `include`).
use Rattle.std.specs.Prelude.{◌≡◌, ◌≤◌, ◌⊎◌, ℕ, false, List, [], ◌∷◌, ◌++◌, Some, length, slice_get}
use Rattle.wit_types.specs.Passed.wit_order-Order.{Has}
use Rattle.wit_words.specs.declared.source_map.Span.{Span}
use Rattle.wit_types.specs.declared.interface.TypeDef.{TypeDef}
use Rattle.wit_types.specs.declared.world.World.{World}
use Rattle.wit_types.specs.declared.world.WorldInclude.{WorldInclude}
use Rattle.wit_types.specs.declared.world.WorldItem.{WorldItem}
use Rattle.wit_types.specs.declared.world_key.WorldKey.{WorldKey}
use Rattle.wit_copied_trees.specs.Passed.wit_reach-Types.{AreSidesThere}
use Rattle.wit_copied_trees.specs.Passed.wit_sides-Known.{are_there}
use Rattle.wit_copied_trees.specs.Passed.wit_includes-declared-worlds-Included.{Included}
use Rattle.wit_copied_trees.specs.Passed.wit_includes-Included.{IsIncluded}
use Rattle.wit_copied_trees.specs.Passed.wit_includes-declared-worlds-Include.{Include}
use Rattle.wit_copied_trees.specs.Passed.wit_includes-declared-worlds-IncludeFault.{IncludeFault}
use Rattle.wit_copied_trees.specs.Passed.wit_includes-declared-worlds-IncludeFault-TheVariants as missing
use Rattle.wit_copied_trees.specs.Passed.wit_sides-Sides.{IsJoined, IsClash}
use Rattle.wit_copied_trees.specs.Passed.wit_sides-declared-sides-SideFault.{SideFault}
use Rattle.wit_copied_trees.specs.Passed.wit_sides-declared-sides-SideFault-TheVariants as clash
use Rattle.wit_plans.specs.declared.moves.MovedWorld.{MovedWorld}
use Rattle.wit_joined.specs.declared.includes.Sides.{Sides}
use Rattle.wit_joined.specs.declared.includes.JoinFault.{JoinFault}
use Rattle.wit_joined.specs.declared.includes.JoinFault.TheVariants.{ItemNotFound, IncludeClash, OutOfMemory}

-- the types of a graph, and what a world imports and exports so far
pub record State : Type 0 where
  pub types : List TypeDef
  pub imports : List (WorldKey × WorldItem)
  pub exports : List (WorldKey × WorldItem)

-- with what an included world brings
abbrev pub with_brought : State → Included → State
with_brought s b = record { types = s.types ++ b.types.items; imports = s.imports ++ b.imports.items; exports = s.exports ++ b.exports.items }

abbrev pub state : List TypeDef → Sides → State
state types sides = record { types = types; imports = sides.imports.items; exports = sides.exports.items }

-- one world, which is there
abbrev pub IsIncludedAt : List World → ℕ → WorldInclude → State → State → Type 0
IsIncludedAt worlds id n s t = (w : World) × (b : Included) × (slice_get worlds n.id ≡ Some w) × IsIncluded n.names.items n.id id s.types w b × (t ≡ with_brought s b)

-- the worlds that a world includes, one behind the other
pub data Includes (worlds : List World) (id : ℕ) : List WorldInclude → State → State → Type 0 where
  includes_none : (s : State) → Includes worlds id [] s s
  includes_one : (ns : List WorldInclude) (n : WorldInclude) (s t u : State) → Includes worlds id ns s t → IsIncludedAt worlds id n t u → Includes worlds id (ns ++ n ∷ []) s u

-- one world, of which that is the place
abbrev pub IsIncludedOne : Include → List TypeDef → Sides → List TypeDef → Sides → Type 0
IsIncludedOne n old sides new found =
    (b : Included) × IsIncluded n.names.now n.from n.into old n.world.now b × (new ≡ old ++ b.types.items) × (found.imports.items ≡ sides.imports.items ++ b.imports.items) × (found.exports.items ≡ sides.exports.items ++ b.exports.items)

abbrev pub fault_of : IncludeFault → JoinFault
fault_of (missing.ItemNotFound at) = ItemNotFound at
fault_of missing.OutOfMemory = OutOfMemory

abbrev pub clash_of : SideFault → JoinFault
clash_of (clash.IncludeClash at) = IncludeClash at
clash_of clash.OutOfMemory = OutOfMemory

abbrev pub IsOneCause : Include → JoinFault → Type 0
IsOneCause n (ItemNotFound at) = (are_there n.names.now n.world.now ≡ false) × (at ≡ n.span)
IsOneCause n (IncludeClash at) = ⊥
IsOneCause n OutOfMemory = Unit {0}

-- a world isn't there, or a name isn't its that is changed
abbrev pub IsMissing : List World → WorldInclude → Type 0
IsMissing worlds n = (length worlds ≤ n.id) ⊎ ((w : World) × (slice_get worlds n.id ≡ Some w) × (are_there n.names.items w ≡ false))

abbrev pub IsAtCause : List World → WorldInclude → JoinFault → Type 0
IsAtCause worlds n (ItemNotFound at) = IsMissing worlds n × (at ≡ n.span)
IsAtCause worlds n (IncludeClash at) = ⊥
IsAtCause worlds n OutOfMemory = Unit {0}

-- one of them is refused
pub record IncludesBreak (worlds : List World) (ns : List WorldInclude) (at : Span) : Type 0 where
  pub n : WorldInclude
  pub there : Has ns n
  pub missing : IsMissing worlds n
  pub stands : at ≡ n.span

abbrev pub IsIncludesCause : List World → List WorldInclude → JoinFault → Type 0
IsIncludesCause worlds ns (ItemNotFound at) = IncludesBreak worlds ns at
IsIncludesCause worlds ns (IncludeClash at) = ⊥
IsIncludesCause worlds ns OutOfMemory = Unit {0}

-- what all worlds import and export is made of types that are there
abbrev pub AreWorldsThere : List TypeDef → List World → Type 0
AreWorldsThere types worlds = (w : World) → Has worlds w → AreSidesThere types w

-- ---- a world

-- both sides with all that is included: equal interfaces are one, and no plain names clash
pub record AreJoined (worlds : List World) (id : ℕ) (ns : List WorldInclude) (own : State) (types : List TypeDef) (imports exports : List (WorldKey × WorldItem)) : Type 0 where
  pub joined : State
  pub includes : Includes worlds id ns own joined
  pub types_are : types ≡ joined.types
  pub imports_are : IsJoined joined.imports imports
  pub exports_are : IsJoined joined.exports exports

-- all that is included is there, and two plain names of a side clash
pub record SidesClash (worlds : List World) (id : ℕ) (ns : List WorldInclude) (own : State) (at : Span) : Type 0 where
  pub joined : State
  pub includes : Includes worlds id ns own joined
  pub clash : IsClash joined.imports at ⊎ IsClash joined.exports at

abbrev pub IsSidesCause : List World → ℕ → List WorldInclude → State → JoinFault → Type 0
IsSidesCause worlds id ns own (ItemNotFound at) = IncludesBreak worlds ns at
IsSidesCause worlds id ns own (IncludeClash at) = SidesClash worlds id ns own at
IsSidesCause worlds id ns own OutOfMemory = Unit {0}

abbrev pub own_state : List TypeDef → MovedWorld → State
own_state types m = record { types = types; imports = m.imports.items; exports = m.exports.items }

-- a world of a package with all that it includes
pub record IsJoinedWorld (worlds : List World) (id owner : ℕ) (m : MovedWorld) (old new : List TypeDef) (w : World) : Type 0 where
  pub sides : AreJoined worlds id m.includes.items (own_state old m) new w.imports.entries w.exports.entries
  pub name : w.name ≡ m.name
  pub owner_is : w.«package» ≡ Some owner
  pub docs : w.docs ≡ m.docs
  pub stability : w.stability ≡ m.stability
  pub no_includes : w.includes.items ≡ []
  pub span : w.span ≡ m.span

abbrev pub IsWorldCause : List World → ℕ → MovedWorld → List TypeDef → JoinFault → Type 0
IsWorldCause worlds id m old fault = IsSidesCause worlds id m.includes.items (own_state old m) fault
