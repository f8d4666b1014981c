-- Packages and texts that are there had no cause to be refused, but for want of memory (WIT, Packages).
use Rattle.std.specs.Prelude.{◌≡◌, ℕ, ◌+◌, ◌^◌, ◌≤◌, Bool, List}
use Rattle.wit_words.specs.Sources.{SourceText, total}
use Rattle.wit_order.specs.Order.{Has}
use Rattle.wit_types.specs.declared.«package».PackageName.{PackageName}
use Rattle.wit_types.specs.declared.«package».UnresolvedPackage.{UnresolvedPackage}
use Rattle.wit_rules.specs.declared.fault.PackageFault.{PackageFault}
use Rattle.wit_push_causes.specs.Passed.wit_package-declared-group-UnresolvedPackageGroup.{UnresolvedPackageGroup}
use Rattle.wit_push_causes.specs.Passed.wit_package-Group.{IsTextsFault, IsBeginning}
use Rattle.wit_resolution.specs.Passed.wit_resolve_errors-Errors.{IsOfTexts}
use Rattle.wit_resolution.specs.Passed.wit_resolve_errors-declared-error-ResolveErrorKind.{ResolveErrorKind}
use Rattle.wit_resolution.specs.Passed.wit_resolve_errors-declared-error-ResolveErrorKind-TheVariants.{TooLarge, OutOfMemory}
use Rattle.wit_push_causes.specs.Asked.{AsksForOne}
use Rattle.wit_push_causes.specs.Causes.{AskForOne}
use Rattle.wit_resolution.specs.Groups.{packages_behind}
use Rattle.wit_resolution.specs.Pushes.{Resolved, IsPackagePushed, IsPackageError, AreGroupsPushed, IsGroupsError, AreTextsPushed}

-- ---- a package, whose texts begin at a place

abbrev pub PushedPackagesHaveNoCause : Type 0
PushedPackagesHaveNoCause =
    (eq : PackageName → PackageName → Bool) (old : Resolved) (offset : ℕ) (p : UnresolvedPackage) (new : Resolved) (id : ℕ) (kind : ResolveErrorKind)
    → AsksForOne p → IsPackagePushed eq old offset p new id → IsPackageError eq old offset p kind → kind ≡ OutOfMemory

-- ---- groups of packages

abbrev pub PushedGroupsHaveNoCause : Type 0
PushedGroupsHaveNoCause =
    (eq : PackageName → PackageName → Bool) (old : Resolved) (gs : List UnresolvedPackageGroup) (new : Resolved) (id : ℕ) (kind : ResolveErrorKind)
    → AskForOne (packages_behind old.texts gs) → AreGroupsPushed eq old gs new id → IsGroupsError eq old gs kind → kind ≡ OutOfMemory

-- ---- texts

-- why texts of packages are refused, where those groups are what they are resolved to
pub data IsTextsCause (eq : PackageName → PackageName → Bool) (old : Resolved) (files : List (List SourceText)) (groups : List UnresolvedPackageGroup) (kind : ResolveErrorKind) : Type 0 where
  no_memory : kind ≡ OutOfMemory → IsTextsCause eq old files groups kind
  -- up to one of them, the texts of a package have too many bytes
  too_large : (texts read : List SourceText) → Has files texts → IsBeginning texts read → 2 ^ 32 ≤ total old.texts + total read → kind ≡ TooLarge → IsTextsCause eq old files groups kind
  -- the texts of a package aren't of the grammar, or their files break a rule
  unread : (texts : List SourceText) (fault : PackageFault) → Has files texts → IsTextsFault texts fault → IsOfTexts (total old.texts) fault kind → IsTextsCause eq old files groups kind
  -- the groups are refused
  refused : IsGroupsError eq old groups kind → IsTextsCause eq old files groups kind

abbrev pub PushedTextsHaveNoCause : Type 0
PushedTextsHaveNoCause =
    (eq : PackageName → PackageName → Bool) (old : Resolved) (files : List (List SourceText)) (new : Resolved) (id : ℕ) (kind : ResolveErrorKind)
    → (h : AreTextsPushed eq old files new id) → IsTextsCause eq old files h.groups kind → kind ≡ OutOfMemory
