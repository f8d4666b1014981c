-- Packages that stand under their names, and a package of a new name, whose text no other has (WIT, Package Names).
use Rattle.std.specs.Prelude.{◌≡◌, ℕ, Bool, true, false, List, Ok, Option, Some, None, slice_get, string_bytes, is_some}
use Rattle.std.specs.Map.{lookup}
use Rattle.semver.specs.Identifiers.{parts_of, version_text}
use Rattle.semver.specs.Parse.{version_parts}
use Rattle.semver.specs.declared.Version.{Version}
use Rattle.wit_order.specs.Order.{Has}
use Rattle.wit_types.specs.declared.«package».Package.{Package}
use Rattle.wit_types.specs.declared.«package».PackageName.{PackageName}
use Rattle.wit_plain_texts.specs.Plain.{IsPlain}
use Rattle.wit_item_names.specs.Passed.wit_graph_worlds-Names.{IsSameName}
use Rattle.wit_item_names.specs.Placed.{IsNewName}

-- the text of the version is read as that version, where there is one
abbrev pub ReadsBack : Option Version → Type 0
ReadsBack None = Unit {0}
ReadsBack (Some v) = version_parts (version_text v) ≡ Ok (parts_of v)

-- parts of the name have none of the marks that stand between names, and its version is read back
pub record IsReadName (n : PackageName) : Type 0 where
  pub namespace : IsPlain (string_bytes n.namespace)
  pub name : IsPlain (string_bytes n.name)
  pub version : ReadsBack n.version

-- names of the same texts and versions are equal
abbrev pub SeesSameNames : (PackageName → PackageName → Bool) → Type 0
SeesSameNames eq = (n m : PackageName) → IsSameName n m → eq n m ≡ true

-- the package stands under its name
pub record IsKnown (names : List (PackageName × ℕ)) (i : ℕ) (q : Package) : Type 0 where
  pub name : PackageName
  pub there : Has names (name, i)
  pub is_same : IsSameName name q.name
  pub is_read : IsReadName name

-- and so does each
abbrev pub AreKnownByName : List Package → List (PackageName × ℕ) → Type 0
AreKnownByName packages names = (i : ℕ) (q : Package) → slice_get packages i ≡ Some q → IsKnown names i q

-- then a package whose name stands for none of them has a new text
abbrev pub NewNamesAreNew : Type 0
NewNamesAreNew =
    (eq : PackageName → PackageName → Bool) (packages : List Package) (names : List (PackageName × ℕ)) (n : PackageName) (q : Package)
    → SeesSameNames eq → AreKnownByName packages names → IsReadName n → is_some (lookup (eq n) names) ≡ false → IsSameName n q.name → IsNewName packages q
