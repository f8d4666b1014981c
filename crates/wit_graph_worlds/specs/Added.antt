-- Worlds that come to a graph, with all that they include and with all that they import in the end (WIT, Item: `include`; Component Model, WIT, Worlds).
use Rattle.std.specs.Prelude.{◌≡◌, ℕ, List, [], ◌∷◌, ◌++◌, length}
use Rattle.wit_types.specs.Passed.wit_order-Places.{Rows}
use Rattle.wit_types.specs.declared.interface.Interface.{Interface}
use Rattle.wit_types.specs.declared.interface.TypeDef.{TypeDef}
use Rattle.wit_types.specs.declared.world.World.{World}
use Rattle.wit_words.specs.declared.source_map.Span.{Span}
use Rattle.wit_reach.specs.declared.reach.ElaborateFault.{ElaborateFault}
use Rattle.wit_reach.specs.declared.reach.ElaborateFault.TheVariants as conflict
use Rattle.wit_uses.specs.Passed.wit_plans-declared-moves-MovedWorld.{MovedWorld}
use Rattle.wit_uses.specs.Passed.wit_joined-Joined.{IsJoinedWorld, IsWorldCause}
use Rattle.wit_uses.specs.Passed.wit_joined-declared-includes-JoinFault.{JoinFault}
use Rattle.wit_uses.specs.Passed.wit_joined-declared-includes-JoinFault-TheVariants as join
use Rattle.wit_elaborated.specs.Worlds.{IsElaboratedWorld, IsElaboratedCause}
use Rattle.wit_graph_worlds.specs.Copies.{IsSameWorld}
use Rattle.wit_graph_worlds.specs.Worlds.{Worlds, State}
use Rattle.wit_graph_worlds.specs.declared.worlds.WorldFault.{WorldFault}
use Rattle.wit_graph_worlds.specs.declared.worlds.WorldFault.TheVariants.{ItemNotFound, IncludeClash, ExportConflict, OutOfMemory}

-- a world is put behind the others as it is, and with what it imports in the end
pub record IsPut (interfaces : List Interface) (uses : Rows) (types : List TypeDef) (joined : World) (old new : Worlds) : Type 0 where
  pub listed : World
  pub elaborated : World
  pub is_listed : IsSameWorld joined listed
  pub is_elaborated : IsElaboratedWorld types interfaces uses joined elaborated
  pub listed_are : new.listed ≡ old.listed ++ listed ∷ []
  pub elaborated_are : new.elaborated ≡ old.elaborated ++ elaborated ∷ []

-- one world more: what it lists, with all that it includes, and what it imports in the end
pub record IsAdded (interfaces : List Interface) (uses : Rows) (owner : ℕ) (m : MovedWorld) (old new : State) : Type 0 where
  pub joined : World
  pub listed : World
  pub elaborated : World
  pub is_joined : IsJoinedWorld old.worlds.listed (length old.worlds.listed) owner m old.types new.types joined
  pub is_listed : IsSameWorld joined listed
  pub is_elaborated : IsElaboratedWorld new.types interfaces uses joined elaborated
  pub listed_are : new.worlds.listed ≡ old.worlds.listed ++ listed ∷ []
  pub elaborated_are : new.worlds.elaborated ≡ old.worlds.elaborated ++ elaborated ∷ []

-- several, each with those before it there
pub data AreAdded (interfaces : List Interface) (uses : Rows) (owner : ℕ) : List MovedWorld → State → State → Type 0 where
  none_added : (s : State) → AreAdded interfaces uses owner [] s s
  one_added : (ms : List MovedWorld) (m : MovedWorld) (s t u : State) → AreAdded interfaces uses owner ms s t → IsAdded interfaces uses owner m t u → AreAdded interfaces uses owner (ms ++ m ∷ []) s u

-- ---- refusals

abbrev pub fault_of : JoinFault → WorldFault
fault_of (join.ItemNotFound at) = ItemNotFound at
fault_of (join.IncludeClash at) = IncludeClash at
fault_of join.OutOfMemory = OutOfMemory

abbrev pub fault_at : ElaborateFault → Span → WorldFault
fault_at (conflict.ExportConflict i) at = ExportConflict i at
fault_at conflict.OutOfMemory at = OutOfMemory

-- an export of a world is needed from outside: a conflict where the world stands
abbrev pub IsPutCause : Rows → List TypeDef → World → WorldFault → Type 0
IsPutCause uses types joined (ItemNotFound at) = ⊥
IsPutCause uses types joined (IncludeClash at) = ⊥
IsPutCause uses types joined (ExportConflict i at) = IsElaboratedCause types uses joined (conflict.ExportConflict i) × (at ≡ joined.span)
IsPutCause uses types joined OutOfMemory = Unit {0}

-- an export of the world, which stands there, is needed from outside
pub record IsConflict (interfaces : List Interface) (uses : Rows) (owner : ℕ) (m : MovedWorld) (s : State) (i : ℕ) : Type 0 where
  pub types : List TypeDef
  pub joined : World
  pub is_joined : IsJoinedWorld s.worlds.listed (length s.worlds.listed) owner m s.types types joined
  pub conflict : IsElaboratedCause types uses joined (conflict.ExportConflict i)

abbrev pub IsAddCause : List Interface → Rows → ℕ → MovedWorld → State → WorldFault → Type 0
IsAddCause interfaces uses owner m s (ItemNotFound at) = IsWorldCause s.worlds.listed (length s.worlds.listed) m s.types (join.ItemNotFound at)
IsAddCause interfaces uses owner m s (IncludeClash at) = IsWorldCause s.worlds.listed (length s.worlds.listed) m s.types (join.IncludeClash at)
IsAddCause interfaces uses owner m s (ExportConflict i at) = IsConflict interfaces uses owner m s i × (at ≡ m.span)
IsAddCause interfaces uses owner m s OutOfMemory = Unit {0}

-- the first worlds can be added, and then one can't
pub record AreAddCause (interfaces : List Interface) (uses : Rows) (owner : ℕ) (ms : List MovedWorld) (s : State) (fault : WorldFault) : Type 0 where
  pub before : List MovedWorld
  pub one : MovedWorld
  pub after : List MovedWorld
  pub split : ms ≡ before ++ one ∷ after
  pub state : State
  pub added : AreAdded interfaces uses owner before s state
  pub cause : IsAddCause interfaces uses owner one state fault
