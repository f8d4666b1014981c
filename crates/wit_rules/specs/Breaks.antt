-- Rules, and what breaks them where.
use Rattle.std.specs.Prelude.{◌≡◌, ◌⊎◌, ℕ, false, List, map, Option, Some, None, slice_get, bytes_eq, is_ok}
use Rattle.semver.specs.Parse.{version_parts}
use Rattle.wit_scopes.specs.Passed.wit_words-declared-source_map-Span.{Span}
use Rattle.wit_scopes.specs.Passed.wit_words-Slice.{Slice}
use Rattle.wit_scopes.specs.Passed.wit_words-NameKey.{name_key}
use Rattle.wit_scopes.specs.Passed.wit_items-ItemTree.{AttributeTree}
use Rattle.wit_rules.specs.declared.fault.PackageRule.{PackageRule}
use Rattle.wit_rules.specs.declared.fault.PackageRule.TheVariants.{DuplicateName, BadGate, BadVersion}
use Rattle.wit_rules.specs.declared.fault.PackageFault.{PackageFault}
use Rattle.wit_rules.specs.declared.fault.PackageFault.TheVariants.{OutOfMemory, Syntax, Broken}
use Rattle.wit_rules.specs.Gates.{GatesTree, ungated, of_feature, from_version, gates_in}
use Rattle.wit_rules.specs.Repeats.{IsRepeat}

-- which rules something breaks, and where
abbrev pub Breaks : Type 1
Breaks = PackageRule → Span → Type 0

-- it breaks none
abbrev pub IsKept : Breaks → Type 0
IsKept breaks = (rule : PackageRule) (at : Span) → breaks rule at → ⊥

-- a refusal for one that it breaks, or for want of memory
abbrev pub IsFaultOf : Breaks → PackageFault → Type 0
IsFaultOf breaks OutOfMemory = Unit {0}
IsFaultOf breaks (Syntax f) = ⊥
IsFaultOf breaks (Broken rule at) = breaks rule at

-- one of these breaks it
pub record AnyBreaks {X : Type 0} (breaks_of : X → PackageRule → Span → Type 0) (xs : List X) (rule : PackageRule) (at : Span) : Type 0 where
  pub place : ℕ
  pub one : X
  pub there : slice_get xs place ≡ Some one
  pub breaks : breaks_of one rule at

-- a name has the key of one before it (Component Model, Name Uniqueness): a break at that name
pub record NamesBreak (names : List Slice) (rule : PackageRule) (at : Span) : Type 0 where
  pub rule_is : rule ≡ DuplicateName
  pub place : ℕ
  pub again : IsRepeat bytes_eq (map (λ n. name_key n.text) names) place
  pub there : slice_get (map (λ n. n.span) names) place ≡ Some at

-- a path is spelled as one before it: a break at that path
pub record PathsBreak (paths : List Slice) (rule : PackageRule) (at : Span) : Type 0 where
  pub rule_is : rule ≡ DuplicateName
  pub place : ℕ
  pub again : IsRepeat bytes_eq (map (λ p. p.text) paths) place
  pub there : slice_get (map (λ p. p.span) paths) place ≡ Some at

-- the attributes in front of an item may not stand together (WIT, Feature Gates): a break at the first of them
pub record GateFormBreaks (attributes : List AttributeTree) (rule : PackageRule) (at : Span) : Type 0 where
  pub rule_is : rule ≡ BadGate
  pub none : gates_in attributes ≡ None
  pub first : AttributeTree
  pub there : slice_get attributes 0 ≡ Some first
  pub place : first.span ≡ at

-- `semver` doesn't read a version, of which a number has more than 64 bits: a break at the version
pub record VersionBreaks (v : Slice) (rule : PackageRule) (at : Span) : Type 0 where
  pub rule_is : rule ≡ BadVersion
  pub unread : is_ok (version_parts v.text) ≡ false
  pub place : v.span ≡ at

-- a version that may be left out
abbrev pub VersionWhereBreaks : Option Slice → Breaks
VersionWhereBreaks None = λ rule at. ⊥
VersionWhereBreaks (Some v) = VersionBreaks v

-- the versions of gates
abbrev pub GateVersionsBreak : GatesTree → Breaks
GateVersionsBreak ungated = λ rule at. ⊥
GateVersionsBreak (of_feature f d) = VersionWhereBreaks d
GateVersionsBreak (from_version v d) = λ rule at. VersionBreaks v rule at ⊎ VersionWhereBreaks d rule at

-- the attributes in front of an item are no gates, or have a version that isn't read
pub data GatesBreak (attributes : List AttributeTree) (rule : PackageRule) (at : Span) : Type 0 where
  by_form : GateFormBreaks attributes rule at → GatesBreak attributes rule at
  by_version : (g : GatesTree) → gates_in attributes ≡ Some g → GateVersionsBreak g rule at → GatesBreak attributes rule at
