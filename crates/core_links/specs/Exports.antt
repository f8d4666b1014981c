-- Which core exports of a module stand for something of a world (Component Model, Build Targets; Canonical ABI, canon lift).
use Rattle.std.specs.Prelude.{◌≡◌, ◌⊎◌, ℕ, true, List, slice_get, Option, Some, None, Result, Ok, Err}
use Rattle.wasm_types.specs.Entries.{ExportValue}
use Rattle.wit_types.specs.declared.mangling.Mangling.TheVariants.{Legacy}
use Rattle.wit_core_tables.specs.declared.table.Meaning.{Meaning}
use Rattle.wit_core_tables.specs.declared.table.Meaning.TheVariants.{One, Ambiguous}
use Rattle.wit_core_items.specs.World.{IsExportedAs}
use Rattle.wit_core_names.specs.Exports.{IsExportName}
use Rattle.wit_core_names.specs.Items.{CoreExport}
use Rattle.core_links.specs.Names.{Names, counts_legacy, IsExport}
use Rattle.core_links.specs.declared.fault.LinkFault.{LinkFault}
use Rattle.core_links.specs.declared.fault.LinkFault.TheVariants as faults

-- ---- by a name

-- the export at a place has it
abbrev pub HasName : List ExportValue → List ℕ → ℕ → Type 0
HasName es name k = (e : ExportValue) × (slice_get es k ≡ Some e) × (e.name ≡ name)

-- it stands for two things
abbrev pub MeansTwo : Names → List ℕ → Type 0
MeansTwo n name = (i j : ℕ) × IsExport n name i × IsExport n name j × (i ≡ j → ⊥)

-- ---- by names of some kind

-- the export at this place has such a name, and no other; it stands for one thing at most
pub record IsAt (n : Names) (es : List ExportValue) (Is : List ℕ → Type 0) (place : ℕ) : Type 0 where
  pub one : ExportValue
  pub there : slice_get es place ≡ Some one
  pub named : Is one.name
  pub only : (k : ℕ) (e : ExportValue) → slice_get es k ≡ Some e → Is e.name → k ≡ place
  pub one_meaning : MeansTwo n one.name → ⊥

-- no export has such a name
abbrev pub IsNowhere : List ExportValue → (List ℕ → Type 0) → Type 0
IsNowhere es Is = (k : ℕ) (e : ExportValue) → slice_get es k ≡ Some e → Is e.name → ⊥

abbrev pub IsFoundAs : Names → List ExportValue → (List ℕ → Type 0) → Option ℕ → Type 0
IsFoundAs n es Is None = IsNowhere es Is
IsFoundAs n es Is (Some p) = IsAt n es Is p

-- two exports have such names
pub record AreTwo (es : List ExportValue) (Is : List ℕ → Type 0) : Type 0 where
  pub first : ℕ
  pub second : ℕ
  pub apart : first ≡ second → ⊥
  pub one : ExportValue
  pub other : ExportValue
  pub one_there : slice_get es first ≡ Some one
  pub other_there : slice_get es second ≡ Some other
  pub one_named : Is one.name
  pub other_named : Is other.name

-- one has such a name, which stands for two things
pub record HasTwoMeanings (n : Names) (es : List ExportValue) (Is : List ℕ → Type 0) : Type 0 where
  pub place : ℕ
  pub one : ExportValue
  pub there : slice_get es place ≡ Some one
  pub named : Is one.name
  pub two : MeansTwo n one.name

abbrev pub IsUnclear : Names → List ExportValue → (List ℕ → Type 0) → Type 0
IsUnclear n es Is = AreTwo es Is ⊎ HasTwoMeanings n es Is

abbrev pub IsUnclearCause : Names → List ExportValue → (List ℕ → Type 0) → LinkFault → Type 0
IsUnclearCause n es Is fault = ((fault ≡ faults.Ambiguous) × IsUnclear n es Is) ⊎ (fault ≡ faults.OutOfMemory)

-- ---- by what it stands for

-- the legacy name of something, where it counts
abbrev pub IsLegacyName : Names → CoreExport → List ℕ → Type 0
IsLegacyName n x name = (counts_legacy n ≡ true) × IsExportName Legacy n.known x name

-- the one export that stands for something by its name, which stands for nothing else
abbrev pub IsExportOf : Names → List ExportValue → CoreExport → ℕ → Type 0
IsExportOf n es x place = IsAt n es (IsExportedAs n.known (counts_legacy n) x) place

-- why there is none: none stands for it, two do, or the name of one stands for two things
abbrev pub IsExportCause : Names → List ExportValue → CoreExport → LinkFault → Type 0
IsExportCause n es x faults.NotYet = ⊥
IsExportCause n es x faults.DuplicateImport = ⊥
IsExportCause n es x faults.UnknownImport = ⊥
IsExportCause n es x faults.Ambiguous = IsUnclear n es (IsExportedAs n.known (counts_legacy n) x)
IsExportCause n es x faults.LegacyName = ⊥
IsExportCause n es x faults.WrongCoreType = ⊥
IsExportCause n es x faults.MissingCoreExport = IsNowhere es (IsExportedAs n.known (counts_legacy n) x)
IsExportCause n es x faults.OutOfMemory = Unit {0}

-- ---- worked out

-- the one place of a name that is read as this, and stands for what is read as that
abbrev pub IsPlaceOf : Option Meaning → Option Meaning → Result (Option ℕ) LinkFault → Type 0
IsPlaceOf None m r = r ≡ Ok None
IsPlaceOf (Some Ambiguous) m r = r ≡ Err faults.Ambiguous
IsPlaceOf (Some (One p)) (Some Ambiguous) r = r ≡ Err faults.Ambiguous
IsPlaceOf (Some (One p)) (Some (One i)) r = r ≡ Ok (Some p)
IsPlaceOf (Some (One p)) None r = r ≡ Ok (Some p)

-- the one of two that is there
abbrev pub IsOneOf : Option ℕ → Option ℕ → Result ℕ LinkFault → Type 0
IsOneOf None None r = r ≡ Err faults.MissingCoreExport
IsOneOf (Some p) None r = r ≡ Ok p
IsOneOf None (Some q) r = r ≡ Ok q
IsOneOf (Some p) (Some q) r = ((p ≡ q) × (r ≡ Ok p)) ⊎ ((p ≡ q → ⊥) × (r ≡ Err faults.Ambiguous))
