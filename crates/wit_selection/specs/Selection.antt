-- A world that is chosen, by its name or without one (WIT, Package Names, Item: `world`).
use Rattle.std.specs.Prelude.{◌≡◌, ℕ, suc, Bool, true, false, ◌&&◌, List, [], ◌∷◌, Option, Some, None, Result, Ok, Err, String, bytes_eq, string_bytes, slice_get, if◌then◌else◌}
use Rattle.std.specs.declared.alloc.Global.{Global}
use Rattle.semver.specs.Identifiers.{version_text}
use Rattle.semver.specs.declared.Version.{Version}
use Rattle.indexmap.specs.IndexMap.{get_by}
use Rattle.wit_words.specs.Slice.{Slice}
use Rattle.wit_words.specs.declared.fault.SyntaxFault.{SyntaxFault}
use Rattle.wit_words.specs.declared.fault.SyntaxFault.TheVariants as faults
use Rattle.wit_productions.specs.NameTree.{PackageNameTree, UsePathTree, id, in_package}
use Rattle.wit_productions.specs.WholeText.{IsUsePath}
use Rattle.wit_types.specs.declared.«package».Package.{Package}
use Rattle.wit_types.specs.declared.«package».PackageName.{PackageName}
use Rattle.wit_selection.specs.declared.selection.SelectFault.{SelectFault}
use Rattle.wit_selection.specs.declared.selection.SelectFault.TheVariants.{WorldNotFound, OutOfMemory}

-- ---- packages by their names

-- the same namespace and name
abbrev pub is_named : PackageNameTree → PackageName → Bool
is_named t n = bytes_eq (string_bytes n.namespace) t.namespace.text && bytes_eq (string_bytes n.name) t.name.text

-- the same version, by its text
abbrev pub is_of_version : Option Slice → Option Version → Bool
is_of_version None None = true
is_of_version None (Some v) = false
is_of_version (Some t) None = false
is_of_version (Some t) (Some v) = bytes_eq (version_text v) t.text

abbrev pub is_exactly : PackageNameTree → PackageName → Bool
is_exactly t n = is_named t n && is_of_version t.version n.version

-- the ids of the packages that pass, the first of them having that id
abbrev pub ids_where : (PackageName → Bool) → ℕ → List Package → List ℕ
ids_where test i [] = []
ids_where test i (p ∷ ps) = if test p.name then i ∷ ids_where test (suc i) ps else ids_where test (suc i) ps

-- the only one
abbrev pub only : List ℕ → Option ℕ
only [] = None
only (i ∷ []) = Some i
only (i ∷ j ∷ is) = None

-- a name without a version may be that of any version, where no package has none
abbrev pub or_any : Option Slice → List ℕ → List ℕ → List ℕ
or_any (Some v) exact named = exact
or_any None [] named = named
or_any None (i ∷ is) named = i ∷ is

abbrev pub meant : List Package → PackageNameTree → Option ℕ
meant packages t = only (or_any t.version (ids_where (is_exactly t) 0 packages) (ids_where (is_named t) 0 packages))

-- ---- worlds

abbrev pub world_in : Option Package → List ℕ → Option ℕ
world_in None name = None
world_in (Some p) name = get_by (λ (n : String Global). bytes_eq name (string_bytes n)) p.worlds

abbrev pub world_of : List Package → Option ℕ → List ℕ → Option ℕ
world_of packages None name = None
world_of packages (Some p) name = world_in (slice_get packages p) name

-- of the only main package by a plain name, or of the package that is meant
abbrev pub selected : List Package → List ℕ → UsePathTree → Option ℕ
selected packages main (id x) = world_of packages (only main) x.text
selected packages main (in_package t x) = world_of packages (meant packages t) x.text

-- the only world of a package
abbrev pub only_entry : List (String Global × ℕ) → Option ℕ
only_entry [] = None
only_entry (e ∷ []) = Some e.1
only_entry (e ∷ f ∷ es) = None

abbrev pub only_world : Option Package → Option ℕ
only_world None = None
only_world (Some p) = only_entry p.worlds.entries

abbrev pub only_world_of : List Package → Option ℕ → Option ℕ
only_world_of packages None = None
only_world_of packages (Some p) = only_world (slice_get packages p)

-- without a name the only world of the only main package; else a text that is a path, by that
abbrev pub IsSelected : List Package → List ℕ → Option (List ℕ) → ℕ → Type 0
IsSelected packages main None w = only_world_of packages (only main) ≡ Some w
IsSelected packages main (Some text) w = (d : UsePathTree) × IsUsePath text d × (selected packages main d ≡ Some w)

abbrev pub found : Option ℕ → Result ℕ SelectFault
found (Some w) = Ok w
found None = Err WorldNotFound

-- what isn't a path names no world
abbrev pub refusal_of : SyntaxFault → SelectFault
refusal_of faults.OutOfMemory = OutOfMemory
refusal_of faults.TooLarge = WorldNotFound
refusal_of (faults.Broken rule at) = WorldNotFound

-- no world is
abbrev pub IsSelectCause : List Package → List ℕ → Option (List ℕ) → SelectFault → Type 0
IsSelectCause packages main text WorldNotFound = (w : ℕ) → IsSelected packages main text w → ⊥
IsSelectCause packages main text OutOfMemory = Unit {0}
