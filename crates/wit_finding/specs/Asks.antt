-- What is asked of other packages, and what they have of it (WIT, Use, Feature Gates).
use Rattle.std.specs.Prelude.{◌≡◌, ◌<◌, ℕ, length, Bool, true, List, [], ◌∷◌, ◌++◌, Option, Some, None, Vec, String, map, slice_get, string_bytes, bytes_eq, option_map, flat_map, if◌then◌else◌}
use Rattle.std.specs.List.{list_any}
use Rattle.std.specs.declared.alloc.Global.{Global}
use Rattle.indexmap.specs.IndexMap.{IndexMap, get_by}
use Rattle.wit_moves.specs.Passed.wit_order-Order.{Has}
use Rattle.wit_words.specs.declared.source_map.Span.{Span}
use Rattle.wit_moves.specs.Passed.wit_types-declared-interface-Interface.{Interface}
use Rattle.wit_moves.specs.Passed.wit_types-declared-world-World.{World}
use Rattle.wit_moves.specs.Passed.wit_types-declared-package-AstItem.{AstItem}
use Rattle.wit_moves.specs.Passed.wit_types-declared-package-AstItem-TheVariants as asked
use Rattle.wit_moves.specs.Passed.wit_types-declared-package-Package.{Package}
use Rattle.wit_moves.specs.Passed.wit_types-declared-stability-Stability.{Stability}
use Rattle.wit_moves.specs.Passed.wit_features-Features.{FeatureSet, stays}
use Rattle.wit_finding.specs.declared.fault.FindFault.{FindFault}
use Rattle.wit_finding.specs.declared.fault.FindFault.TheVariants.{PackageNotFound, ItemNotFound, OutOfMemory}

-- a name that is asked of a package, as an interface or as a world, by statements with these gates
pub record Ask : Type 0 where
  pub «package» : Package
  pub name : List ℕ
  pub item : AstItem
  pub gates : List Stability

abbrev pub ask : Package → List ℕ → AstItem → List Stability → Ask
ask p name item gates = record { «package» = p; name = name; item = item; gates = gates }

abbrev pub ItemEntry : Type 0
ItemEntry = String Global × (AstItem × Vec Stability Global)

abbrev pub asks_of : Package → List ItemEntry → List Ask
asks_of p es = map (λ (e : ItemEntry). ask p (string_bytes e.0) e.1.0 e.1.1.items) es

-- a statement stays that asks for it
abbrev pub is_kept : FeatureSet → Ask → Bool
is_kept features a = list_any (stays features) a.gates

abbrev pub interface_in : Package → List ℕ → Option ℕ
interface_in p name = get_by (λ (n : String Global). bytes_eq name (string_bytes n)) p.interfaces

abbrev pub world_in : Package → List ℕ → Option ℕ
world_in p name = get_by (λ (n : String Global). bytes_eq name (string_bytes n)) p.worlds

-- what the package has of that name and sort
abbrev pub item_in : Package → List ℕ → AstItem → Option AstItem
item_in p name (asked.Interface i) = option_map asked.Interface (interface_in p name)
item_in p name (asked.World i) = option_map asked.World (world_in p name)

-- and of the other sort
abbrev pub other_in : Package → List ℕ → AstItem → Option AstItem
other_in p name (asked.Interface i) = option_map asked.World (world_in p name)
other_in p name (asked.World i) = option_map asked.Interface (interface_in p name)

-- what is found, where a statement stays
abbrev pub finds : FeatureSet → Ask → Option AstItem
finds features a = if is_kept features a then item_in a.«package» a.name a.item else None

-- by what is asked for
abbrev pub pair_of : AstItem → Option AstItem → List (AstItem × AstItem)
pair_of i None = []
pair_of i (Some j) = (i, j) ∷ []

abbrev pub found_by : FeatureSet → List Ask → List (AstItem × AstItem)
found_by features asks = flat_map (λ (a : Ask). pair_of a.item (finds features a)) asks

-- what is asked of each of these packages
abbrev pub asks_at : Option Package → List ItemEntry → List Ask
asks_at None es = []
asks_at (Some p) es = asks_of p es

abbrev pub asks_in : List Package → List ℕ → List (List ItemEntry) → List Ask
asks_in packages [] deps = []
asks_in packages (i ∷ is) [] = []
asks_in packages (i ∷ is) (d ∷ ds) = asks_at (slice_get packages i) d ++ asks_in packages is ds

-- ---- refused

-- where it is said to stand
abbrev pub IsSpanOf : List Interface → List World → AstItem → Span → Type 0
IsSpanOf interfaces worlds (asked.Interface i) at = (d : Interface) × (slice_get interfaces i ≡ Some d) × (d.span ≡ at)
IsSpanOf interfaces worlds (asked.World i) at = (d : World) × (slice_get worlds i ≡ Some d) × (d.span ≡ at)

abbrev pub IsItemThere : List Interface → List World → AstItem → Type 0
IsItemThere interfaces worlds (asked.Interface i) = i < length interfaces
IsItemThere interfaces worlds (asked.World i) = i < length worlds

abbrev pub AreItemsThere : List Interface → List World → List ItemEntry → Type 0
AreItemsThere interfaces worlds es = (e : ItemEntry) → Has es e → IsItemThere interfaces worlds e.1.0

abbrev pub AreDepsThere : List Interface → List World → List (List ItemEntry) → Type 0
AreDepsThere interfaces worlds ds = (es : List ItemEntry) → Has ds es → AreItemsThere interfaces worlds es

-- what is asked of each package
abbrev pub items_of : {K S : Type 0} → List (K × IndexMap (String Global) (AstItem × Vec Stability Global) S) → List (List ItemEntry)
items_of deps = map (λ d. d.1.entries) deps

-- one that is asked for adds what is found, and isn't missing
abbrev pub IsMissingAt : FeatureSet → List Interface → List World → Ask → Span → Type 0
IsMissingAt features interfaces worlds a at =
    (is_kept features a ≡ true) × (item_in a.«package» a.name a.item ≡ None) × (other_in a.«package» a.name a.item ≡ None) × IsSpanOf interfaces worlds a.item at

-- a statement stays that asks for what the package has of neither sort: a break
pub record AskBreaks (features : FeatureSet) (interfaces : List Interface) (worlds : List World) (asks : List Ask) (at : Span) : Type 0 where
  pub ask : Ask
  pub there : Has asks ask
  pub missing : IsMissingAt features interfaces worlds ask at

-- of one that is asked for
abbrev pub IsMissing : FeatureSet → List Interface → List World → Ask → FindFault → Type 0
IsMissing features interfaces worlds a (ItemNotFound at) = IsMissingAt features interfaces worlds a at
IsMissing features interfaces worlds a (PackageNotFound at) = ⊥
IsMissing features interfaces worlds a OutOfMemory = Unit {0}

abbrev pub IsAskCause : FeatureSet → List Interface → List World → List Ask → FindFault → Type 0
IsAskCause features interfaces worlds asks (ItemNotFound at) = AskBreaks features interfaces worlds asks at
IsAskCause features interfaces worlds asks (PackageNotFound at) = ⊥
IsAskCause features interfaces worlds asks OutOfMemory = Unit {0}
