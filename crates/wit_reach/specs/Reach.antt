-- What is reached over the types that interfaces use, and which interfaces a world imports in the end (Component Model, WIT, Worlds).
use Rattle.std.specs.Prelude.{◌≡◌, ℕ, ◌<◌, List, [], length, ◌⊎◌}
use Rattle.wit_types.specs.Passed.wit_order-Order.{Has, AreDependenciesFirst}
use Rattle.wit_types.specs.Passed.wit_order-Places.{Rows, Needs}
use Rattle.wit_reach.specs.Paths.{AreRising, AreBackward, Reaches}
use Rattle.wit_reach.specs.declared.reach.WorldLists.{WorldLists}
use Rattle.wit_reach.specs.declared.reach.ElaborateFault.{ElaborateFault}
use Rattle.wit_reach.specs.declared.reach.ElaborateFault.TheVariants.{ExportConflict, OutOfMemory}

-- interface i uses a type of interface j
abbrev pub Uses : Rows → ℕ → ℕ → Type 0
Uses g i j = Needs g i j

-- what a world lists: imported interfaces, those whose types its own items use, and its exported interfaces
pub record Lists : Type 0 where
  pub imports : List ℕ
  pub used : List ℕ
  pub exports : List ℕ

abbrev pub lists_of : WorldLists → Lists
lists_of w = record { imports = w.imports.items; used = w.used.items; exports = w.exports.items }

-- a dependency of an exported interface, which is no export itself
abbrev pub IsNeededOutside : Rows → List ℕ → ℕ → Type 0
IsNeededOutside g exports i = (Has exports i → ⊥) × ((e : ℕ) × Has exports e × Uses g e i)

-- where paths start
abbrev pub IsStart : Rows → Lists → ℕ → Type 0
IsStart g w i = Has w.imports i ⊎ Has w.used i ⊎ IsNeededOutside g w.exports i

-- the elaborated imports: all ends of paths from a start
abbrev pub IsElaborated : Rows → Lists → ℕ → Type 0
IsElaborated g w i = (s : ℕ) × IsStart g w s × Reaches (Uses g) s i

-- an exported interface that a dependency from outside depends on
abbrev pub IsConflict : Rows → Lists → ℕ → Type 0
IsConflict g w i = Has w.exports i × ((s : ℕ) × IsNeededOutside g w.exports s × Reaches (Uses g) s i)

-- the list is the elaborated imports, each once, dependencies first, and no export is needed from outside
pub record IsElaboration (g : Rows) (w : Lists) (order : List ℕ) : Type 0 where
  pub all : (i : ℕ) → IsElaborated g w i → Has order i
  pub only : (i : ℕ) → Has order i → IsElaborated g w i
  pub rising : AreRising order
  pub first : AreDependenciesFirst (length g) (Uses g) [] order
  pub no_conflict : (i : ℕ) → IsConflict g w i → ⊥

-- the sentence of a refusal
abbrev pub IsElaborateCause : Rows → Lists → ElaborateFault → Type 0
IsElaborateCause g w (ExportConflict i) = IsConflict g w i
IsElaborateCause g w OutOfMemory = Unit {0}

-- the interfaces of the lists are there
pub record AreThere (g : Rows) (w : Lists) : Type 0 where
  pub imports : (i : ℕ) → Has w.imports i → i < length g
  pub used : (i : ℕ) → Has w.used i → i < length g
  pub exports : (i : ℕ) → Has w.exports i → i < length g

-- elaborating again, with all that is imported listed, gives the same and is refused no more
abbrev pub ElaboratingAgainIsTheSame : Type 0
ElaboratingAgainIsTheSame = (g : Rows) (w : Lists) (order again : List ℕ) → IsElaboration g w order
    → (IsElaboration g (record w { imports = order }) again → again ≡ order) × IsElaboration g (record w { imports = order }) order
    × ((i : ℕ) → IsConflict g (record w { imports = order }) i → ⊥)

-- where all that is listed is there, so is all that is imported in the end
abbrev pub ElaboratedAreThere : Type 0
ElaboratedAreThere = (g : Rows) (w : Lists) (order : List ℕ) → AreThere g w → AreBackward (Uses g) → IsElaboration g w order → (i : ℕ) → Has order i → i < length g
