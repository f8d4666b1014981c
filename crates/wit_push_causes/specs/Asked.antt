-- What a package asks of others, each under one name (WIT, Packages, Use).
use Rattle.std.specs.Prelude.{◌≡◌, List, Vec, String, map, string_bytes}
use Rattle.std.specs.declared.alloc.Global.{Global}
use Rattle.indexmap.specs.IndexMap.{IndexMap}
use Rattle.wit_order.specs.Order.{Has}
use Rattle.wit_types.specs.declared.«package».AstItem.{AstItem}
use Rattle.wit_types.specs.declared.«package».PackageName.{PackageName}
use Rattle.wit_types.specs.declared.«package».UnresolvedPackage.{UnresolvedPackage}
use Rattle.wit_types.specs.declared.stability.Stability.{Stability}
use Rattle.wit_finding.specs.Asks.{ItemEntry}

abbrev pub PackageEntry : Type 0
PackageEntry = PackageName × List ItemEntry

-- each package with what is asked of it
abbrev pub package_entries : {S : Type 0} → List (PackageName × IndexMap (String Global) (AstItem × Vec Stability Global) S) → List PackageEntry
package_entries deps = map (λ d. (d.0, d.1.entries)) deps

-- what stands at one place is asked for under one name of one package
abbrev pub AreForOne : List PackageEntry → Type 0
AreForOne deps =
    (d e : PackageEntry) (x y : ItemEntry) → Has deps d → Has d.1 x → Has deps e → Has e.1 y → y.1.0 ≡ x.1.0 → (e.0 ≡ d.0) × (string_bytes y.0 ≡ string_bytes x.0)

abbrev pub AsksForOne : UnresolvedPackage → Type 0
AsksForOne p = AreForOne (package_entries p.foreign_deps.entries)
