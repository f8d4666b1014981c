-- Where all stands that a package asks for (WIT, Use, Packages).
use Rattle.std.specs.Prelude.{ℕ, ◌+◌, Bool, List, [], ◌∷◌, Vec, map}
use Rattle.std.specs.declared.alloc.Global.{Global}
use Rattle.wit_words.specs.declared.source_map.Span.{Span}
use Rattle.wit_moves.specs.Passed.wit_types-declared-stability-Stability.{Stability}
use Rattle.wit_moves.specs.Passed.wit_types-declared-package-AstItem.{AstItem}
use Rattle.wit_moves.specs.Passed.wit_types-declared-package-AstItem-TheVariants as asked
use Rattle.wit_moves.specs.Passed.wit_types-declared-package-Package.{Package}
use Rattle.wit_moves.specs.Passed.wit_types-declared-package-PackageName.{PackageName}
use Rattle.wit_moves.specs.Passed.wit_types-declared-package-UnresolvedPackage.{UnresolvedPackage}
use Rattle.wit_moves.specs.Passed.wit_features-Features.{FeatureSet}
use Rattle.wit_moves.specs.Moved.{Places}
use Rattle.wit_finding.specs.declared.counts.Counts.{Counts}
use Rattle.wit_finding.specs.declared.fault.FindFault.{FindFault}
use Rattle.wit_finding.specs.declared.fault.FindFault.TheVariants.{PackageNotFound, ItemNotFound, OutOfMemory}
use Rattle.wit_finding.specs.Packages.{AreNamed, PackagesBreak}
use Rattle.wit_finding.specs.Asks.{Ask, ItemEntry, asks_in, items_of, found_by, AskBreaks}
use Rattle.wit_finding.specs.Places.{interface_pairs, world_pairs, ArePlaced}

-- ---- how many are asked for

abbrev pub with_item : Counts → AstItem → Counts
with_item c (asked.Interface i) = record c { interfaces = c.interfaces + 1 }
with_item c (asked.World i) = record c { worlds = c.worlds + 1 }

abbrev pub with_items : Counts → List (AstItem × Vec Stability Global) → Counts
with_items c [] = c
with_items c (x ∷ xs) = with_items (with_item c x.0) xs

abbrev pub with_deps : Counts → List (List ItemEntry) → Counts
with_deps c [] = c
with_deps c (d ∷ ds) = with_deps (with_items c (map (λ (e : ItemEntry). e.1) d)) ds

abbrev pub counts_of : List (List ItemEntry) → Counts
counts_of ds = with_deps (record { interfaces = 0; worlds = 0 }) ds

-- ---- where they stand

abbrev pub asks_of_package : List Package → List ℕ → UnresolvedPackage → List Ask
asks_of_package packages ids p = asks_in packages ids (items_of p.foreign_deps.entries)

-- the packages of which something is asked are these of the graph, and what is asked of them stands there
pub record AreForeignPlaces (eq : PackageName → PackageName → Bool) (features : FeatureSet) (names : List (PackageName × ℕ)) (packages : List Package) (p : UnresolvedPackage) (interfaces worlds : Places) : Type 0 where
  pub ids : List ℕ
  pub named : AreNamed eq names p.foreign_deps.entries ids
  pub interfaces_are : ArePlaced (interface_pairs (found_by features (asks_of_package packages ids p))) (counts_of (items_of p.foreign_deps.entries)).interfaces interfaces
  pub worlds_are : ArePlaced (world_pairs (found_by features (asks_of_package packages ids p))) (counts_of (items_of p.foreign_deps.entries)).worlds worlds
  pub kept : (at : Span) → AskBreaks features p.interfaces p.worlds (asks_of_package packages ids p) at → ⊥

-- the packages are there, and one of them has not what is asked of it
pub record ItemsBreak (eq : PackageName → PackageName → Bool) (features : FeatureSet) (names : List (PackageName × ℕ)) (packages : List Package) (p : UnresolvedPackage) (at : Span) : Type 0 where
  pub ids : List ℕ
  pub named : AreNamed eq names p.foreign_deps.entries ids
  pub breaks : AskBreaks features p.interfaces p.worlds (asks_of_package packages ids p) at

abbrev pub IsForeignCause : (PackageName → PackageName → Bool) → FeatureSet → List (PackageName × ℕ) → List Package → UnresolvedPackage → FindFault → Type 0
IsForeignCause eq features names packages p (PackageNotFound at) = PackagesBreak eq names p.foreign_deps.entries p.foreign_dep_spans.items at
IsForeignCause eq features names packages p (ItemNotFound at) = ItemsBreak eq features names packages p at
IsForeignCause eq features names packages p OutOfMemory = Unit {0}
