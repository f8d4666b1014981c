-- Groups of packages whose texts come behind others (WIT, Packages).
use Rattle.std.specs.Prelude.{◌≡◌, ◌⊎◌, ℕ, ◌+◌, ◌^◌, ◌<◌, ◌≤◌, List, [], ◌∷◌, ◌++◌, map, flat_map, take}
use Rattle.wit_words.specs.Sources.{SourceText, total}
use Rattle.wit_order.specs.Order.{Has}
use Rattle.wit_types.specs.declared.«package».UnresolvedPackage.{UnresolvedPackage}
pub use Rattle.wit_well_formed.specs.Passed.wit_package-declared-group-UnresolvedPackageGroup.{UnresolvedPackageGroup}
use Rattle.wit_offsets.specs.Offsets.{package_at, Fits, Passes}

-- the package of its texts, and those that are nested in them
abbrev pub packages_of : UnresolvedPackageGroup → List UnresolvedPackage
packages_of g = g.main ∷ g.nested.items

-- the packages of all groups, each with its places where its texts stand: behind those texts and those of the groups before it
abbrev pub packages_behind : List SourceText → List UnresolvedPackageGroup → List UnresolvedPackage
packages_behind texts [] = []
packages_behind texts (g ∷ gs) = map (package_at (total texts)) (packages_of g) ++ packages_behind (texts ++ g.source_map) gs

-- the texts of all
abbrev pub texts_of : List UnresolvedPackageGroup → List SourceText
texts_of gs = flat_map (λ (g : UnresolvedPackageGroup). g.source_map) gs

-- behind those texts it has at most 4,294,967,295 bytes with them, and no place of it lies behind so many
pub record Fit (texts : List SourceText) (g : UnresolvedPackageGroup) : Type 0 where
  pub bytes : total texts + total g.source_map < 2 ^ 32
  pub places : (p : UnresolvedPackage) → Has (packages_of g) p → Fits (total texts) p

-- it has more, or a place does
abbrev pub Pass : List SourceText → UnresolvedPackageGroup → Type 0
Pass texts g = (2 ^ 32 ≤ total texts + total g.source_map) ⊎ ((p : UnresolvedPackage) × Has (packages_of g) p × Passes (total texts) p)

-- each does, behind those texts and those of the groups before it
abbrev pub AllFit : List SourceText → List UnresolvedPackageGroup → Type 0
AllFit texts [] = Unit {0}
AllFit texts (g ∷ gs) = Fit texts g × AllFit (texts ++ g.source_map) gs

-- one doesn't
abbrev pub SomePass : List SourceText → List UnresolvedPackageGroup → Type 0
SomePass texts [] = ⊥
SomePass texts (g ∷ gs) = Pass texts g ⊎ SomePass (texts ++ g.source_map) gs

-- the first of the groups have their texts behind those
abbrev pub BeginBehind : List SourceText → List UnresolvedPackageGroup → List SourceText → Type 0
BeginBehind texts gs new = (k : ℕ) × (new ≡ texts ++ texts_of (take k gs))
