-- How stable items are, by the gates in front of them (WIT, Feature Gates).
use Rattle.std.specs.Prelude.{◌≡◌, ℕ, List, Option, Some, None, String, Ok, string_bytes}
use Rattle.std.specs.declared.alloc.Global.{Global}
use Rattle.semver.specs.declared.Version.{Version}
use Rattle.semver.specs.Parse.{version_parts}
use Rattle.semver.specs.Identifiers.{parts_of}
use Rattle.wit_types.specs.Passed.wit_words-Slice.{Slice}
use Rattle.wit_rules.specs.Passed.wit_items-ItemTree.{AttributeTree}
use Rattle.wit_types.specs.declared.stability.Stability.{Stability}
use Rattle.wit_types.specs.declared.stability.Stability.TheVariants.{Unknown, Unstable, Stable}
use Rattle.wit_rules.specs.Gates.{GatesTree, ungated, of_feature, from_version, gates_in}

-- `semver` reads the version
abbrev pub IsRead : Slice → Type 0
IsRead v = (p : ℕ × ℕ × ℕ × List ℕ × List ℕ) × (version_parts v.text ≡ Ok p)

abbrev pub IsReadWhere : Option Slice → Type 0
IsReadWhere None = Unit {0}
IsReadWhere (Some v) = IsRead v

-- as that version
abbrev pub IsVersionOf : Slice → Version → Type 0
IsVersionOf v w = version_parts v.text ≡ Ok (parts_of w)

pub data IsVersionWhere : Option Slice → Option Version → Type 0 where
  no_version : IsVersionWhere None None
  a_version : (v : Slice) (w : Version) → IsVersionOf v w → IsVersionWhere (Some v) (Some w)

abbrev pub AreVersionsRead : GatesTree → Type 0
AreVersionsRead ungated = Unit {0}
AreVersionsRead (of_feature f d) = IsReadWhere d
AreVersionsRead (from_version v d) = IsRead v × IsReadWhere d

-- what gates say of an item
pub data IsGated : GatesTree → Stability → Type 0 where
  is_ungated : IsGated ungated Unknown
  is_of_feature : (f : Slice) (d : Option Slice) (feature : String Global) (w : Option Version) → string_bytes feature ≡ f.text → IsVersionWhere d w → IsGated (of_feature f d) (Unstable feature w)
  is_from_version : (v : Slice) (d : Option Slice) (since : Version) (w : Option Version) → IsVersionOf v since → IsVersionWhere d w → IsGated (from_version v d) (Stable since w)

-- the attributes are gates that may stand together, and `semver` reads their versions
abbrev pub AreGates : List AttributeTree → Type 0
AreGates attributes = (g : GatesTree) × (gates_in attributes ≡ Some g) × AreVersionsRead g

abbrev pub IsStabilityOf : List AttributeTree → Stability → Type 0
IsStabilityOf attributes s = (g : GatesTree) × (gates_in attributes ≡ Some g) × IsGated g s
