-- What the core imports of a module stand for (Component Model, Build Targets; Canonical ABI, canon lower).
use Rattle.std.specs.Prelude.{◌≡◌, ◌<◌, ℕ, List, length, slice_get, Some, Bool, true, false, ◌&&◌, bytes_eq, codes}
use Rattle.wasm_types.specs.Entries.{ImportValue}
use Rattle.wit_core_items.specs.ImportPlaces.{import_at}
use Rattle.wit_core_items.specs.World.{core_imports, ImportStandsFor}
use Rattle.wit_core_items.specs.declared.import_places.ImportPlace.{ImportPlace}
use Rattle.wit_core_names.specs.Items.{CoreImport}
use Rattle.core_links.specs.Names.{Names, IsImport}
use Rattle.core_links.specs.declared.fault.LinkFault.{LinkFault}
use Rattle.core_links.specs.declared.fault.LinkFault.TheVariants as faults

-- ---- what one stands for

-- the memory of the surroundings, which is to come
abbrev pub is_outer_memory : ImportValue → Bool
is_outer_memory i = bytes_eq i.place (codes "env") && bytes_eq i.name (codes "memory")

-- it stands for what is there, and for nothing else, nor for the memory of the surroundings
pub record IsMeaning (n : Names) (i : ImportValue) (place : ℕ) : Type 0 where
  pub stands : IsImport n i.place i.name place
  pub only : (j : ℕ) → IsImport n i.place i.name j → j ≡ place
  pub inner : is_outer_memory i ≡ false

-- it stands for that, and for nothing else
pub record StandsFor (n : Names) (i : ImportValue) (x : CoreImport) : Type 0 where
  pub place : ℕ
  pub means : IsMeaning n i place
  pub is : slice_get (core_imports n.known n.world) place ≡ Some x

-- and the world has that there
pub record StandsAt (n : Names) (i : ImportValue) (p : ImportPlace) : Type 0 where
  pub item : CoreImport
  pub has : import_at n.known n.world p ≡ Some item
  pub stands : StandsFor n i item

-- each stands for what is at its place
pub record AreMeanings (n : Names) (is : List ImportValue) (places : List ℕ) : Type 0 where
  pub so_many : length places ≡ length is
  pub each : (k : ℕ) (i : ImportValue) (place : ℕ) → slice_get is k ≡ Some i → slice_get places k ≡ Some place → IsMeaning n i place

-- ---- why it isn't so

-- it stands for nothing, in whatever spelling
abbrev pub IsUnknown : Names → ImportValue → Type 0
IsUnknown n i = (is_outer_memory i ≡ false) × ((j : ℕ) → ImportStandsFor n.known n.world true i.place i.name j → ⊥)

-- it stands for two things
abbrev pub IsAmbiguous : Names → ImportValue → Type 0
IsAmbiguous n i = (j k : ℕ) × IsImport n i.place i.name j × IsImport n i.place i.name k × (j ≡ k → ⊥)

-- it would stand for something if legacy names weren't rejected
pub record IsLegacyAlone (n : Names) (i : ImportValue) : Type 0 where
  pub rejects : n.rejects_legacy ≡ true
  pub none : (j : ℕ) → IsImport n i.place i.name j → ⊥
  pub place : ℕ
  pub stands : ImportStandsFor n.known n.world true i.place i.name place

-- two of them have one pair of texts
pub record RepeatsPair (is : List ImportValue) : Type 0 where
  pub first : ℕ
  pub second : ℕ
  pub apart : first < second
  pub one : ImportValue
  pub other : ImportValue
  pub one_there : slice_get is first ≡ Some one
  pub other_there : slice_get is second ≡ Some other
  pub same_place : one.place ≡ other.place
  pub same_name : one.name ≡ other.name

-- so is one of these
abbrev pub OneOf : {X : Type 0} → (X → Type 0) → List X → Type 0
OneOf {X} P xs = (k : ℕ) × (x : X) × (slice_get xs k ≡ Some x) × P x

-- why the core imports of a module aren't linked
abbrev pub IsImportsCause : Names → List ImportValue → LinkFault → Type 0
IsImportsCause n is faults.NotYet = OneOf (λ i. is_outer_memory i ≡ true) is
IsImportsCause n is faults.DuplicateImport = RepeatsPair is
IsImportsCause n is faults.UnknownImport = OneOf (IsUnknown n) is
IsImportsCause n is faults.Ambiguous = OneOf (IsAmbiguous n) is
IsImportsCause n is faults.LegacyName = OneOf (IsLegacyAlone n) is
IsImportsCause n is faults.WrongCoreType = ⊥
IsImportsCause n is faults.MissingCoreExport = ⊥
IsImportsCause n is faults.OutOfMemory = Unit {0}

-- of one of them
abbrev pub IsImportCause : Names → ImportValue → LinkFault → Type 0
IsImportCause n i faults.NotYet = is_outer_memory i ≡ true
IsImportCause n i faults.DuplicateImport = ⊥
IsImportCause n i faults.UnknownImport = IsUnknown n i
IsImportCause n i faults.Ambiguous = IsAmbiguous n i
IsImportCause n i faults.LegacyName = IsLegacyAlone n i
IsImportCause n i faults.WrongCoreType = ⊥
IsImportCause n i faults.MissingCoreExport = ⊥
IsImportCause n i faults.OutOfMemory = Unit {0}
