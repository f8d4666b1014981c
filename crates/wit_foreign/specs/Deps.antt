-- What is asked of each other package.
use Rattle.std.specs.Prelude.{◌≡◌, ℕ, List, [], ◌∷◌, ◌++◌, Vec, String, length, map, slice_get, Some, string_bytes}
use Rattle.std.specs.declared.alloc.Global.{Global}
use Rattle.indexmap.specs.IndexMap.{IndexMap}
use Rattle.wit_words.specs.declared.source_map.Span.{Span}
use Rattle.wit_lookups.specs.Passed.wit_syntax-Ast.{PackageNameTree}
use Rattle.wit_types.specs.declared.«package».AstItem.{AstItem}
use Rattle.wit_types.specs.declared.«package».PackageName.{PackageName}
use Rattle.wit_types.specs.declared.stability.Stability.{Stability}
use Rattle.wit_lookups.specs.Passed.wit_rules-Facts.{name_span}
use Rattle.wit_package_types.specs.Passed.wit_arena-Meaning.{Has}
use Rattle.wit_package_types.specs.Stability.{IsReadWhere, IsVersionWhere, AreGates, IsStabilityOf}
use Rattle.wit_foreign.specs.Needs.{NeedTree}
use Rattle.wit_foreign.specs.Items.{Items, need_owner}
use Rattle.wit_foreign.specs.Groups.{package_key, item_key, AreParts}

-- ---- what each need must have

-- the gates of each may stand together
abbrev pub HaveGates : List NeedTree → Type 0
HaveGates needs = (n : NeedTree) → Has needs n → AreGates n.attributes

-- each has an id
abbrev pub HaveItems : Items → List NeedTree → Type 0
HaveItems items needs = (n : NeedTree) → Has needs n → (i : AstItem) × Has items (need_owner n, i)

-- `semver` reads the version of each package
abbrev pub HaveVersions : List NeedTree → Type 0
HaveVersions needs = (n : NeedTree) → Has needs n → IsReadWhere (n.«package»).version

-- ---- what is made of them

-- one for each need, in order
pub data AreStabilities : List NeedTree → List Stability → Type 0 where
  no_stabilities : AreStabilities [] []
  one_stability_more : (ns : List NeedTree) (ss : List Stability) (n : NeedTree) (s : Stability) → AreStabilities ns ss → IsStabilityOf n.attributes s → AreStabilities (ns ++ n ∷ []) (ss ++ s ∷ [])

abbrev pub ItemEntry : Type 0
ItemEntry = String Global × (AstItem × Vec Stability Global)

-- an item under its name, with its id and with how stable each need of it is
pub record IsItemDep (items : Items) (first : NeedTree) (needs : List NeedTree) (e : ItemEntry) : Type 0 where
  pub name : string_bytes e.0 ≡ first.item.text
  pub item : Has items (need_owner first, e.1.0)
  pub stabilities : AreStabilities needs e.1.1.items

-- one entry for each part, in order
pub record AreEntries {E : Type 0} (IsEntry : NeedTree → List NeedTree → E → Type 0) (firsts : List NeedTree) (rows : List (List NeedTree)) (es : List E) : Type 0 where
  pub so_many : length es ≡ length firsts
  pub each : (k : ℕ) (f : NeedTree) (row : List NeedTree) → slice_get firsts k ≡ Some f → slice_get rows k ≡ Some row → (e : E) × (slice_get es k ≡ Some e) × IsEntry f row e

-- the items of a package, each once, in the order in which they are first asked for
pub record AreItemDeps (items : Items) (needs : List NeedTree) (es : List ItemEntry) : Type 0 where
  pub firsts : List NeedTree
  pub rows : List (List NeedTree)
  pub parts : AreParts item_key needs firsts rows
  pub entries : AreEntries (IsItemDep items) firsts rows es

-- a name with those texts, whose version is what `semver` reads
pub record IsPackageName (p : PackageNameTree) (n : PackageName) : Type 0 where
  pub namespace : string_bytes n.namespace ≡ p.namespace.text
  pub name : string_bytes n.name ≡ p.name.text
  pub version : IsVersionWhere p.version n.version

abbrev pub PackageEntry : Type 0
PackageEntry = PackageName × List ItemEntry

abbrev pub package_entries : {S : Type 0} → List (PackageName × IndexMap (String Global) (AstItem × Vec Stability Global) S) → List PackageEntry
package_entries es = map (λ e. (e.0, e.1.entries)) es

-- a package with its items
pub record IsPackageDep (items : Items) (first : NeedTree) (needs : List NeedTree) (e : PackageEntry) : Type 0 where
  pub name : IsPackageName first.«package» e.0
  pub items_are : AreItemDeps items needs e.1

-- where the package of a need is named
abbrev pub package_span : NeedTree → Span
package_span n = name_span n.«package»

-- the packages, each once, in the order in which they are first asked for, and where each is first asked for
pub record AreDeps (items : Items) (needs : List NeedTree) (es : List PackageEntry) (spans : List Span) : Type 0 where
  pub firsts : List NeedTree
  pub rows : List (List NeedTree)
  pub parts : AreParts package_key needs firsts rows
  pub entries : AreEntries (IsPackageDep items) firsts rows es
  pub spans_are : spans ≡ map package_span firsts
