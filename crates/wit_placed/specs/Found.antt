-- What a package asks of others is found among what is there (WIT, Use, Packages).
use Rattle.std.specs.Prelude.{ℕ, ◌<◌, Bool, List, String, length, map}
use Rattle.std.specs.declared.alloc.Global.{Global}
use Rattle.wit_plans.specs.Passed.wit_order-Order.{Has}
use Rattle.wit_plans.specs.Passed.wit_types-declared-interface-Interface.{Interface}
use Rattle.wit_plans.specs.Passed.wit_types-declared-interface-TypeDef.{TypeDef}
use Rattle.wit_plans.specs.Passed.wit_types-declared-package-Package.{Package}
use Rattle.wit_plans.specs.Passed.wit_types-declared-package-PackageName.{PackageName}
use Rattle.wit_plans.specs.Passed.wit_types-declared-package-UnresolvedPackage.{UnresolvedPackage}
use Rattle.wit_plans.specs.Passed.wit_features-Features.{FeatureSet}
use Rattle.wit_moved_trees.specs.Passed.wit_moves-Moved.{Places}
use Rattle.wit_plans.specs.Passed.wit_finding-Foreign.{AreForeignPlaces}
use Rattle.wit_plans.specs.Passed.wit_finding-Types.{type_found}
use Rattle.wit_moved_trees.specs.Passed.wit_reach-Types.{AreTypesThere}
use Rattle.wit_placed.specs.There.{AreBelow}

-- all that packages name is one of so many interfaces and worlds
pub record IsPackageThere (interfaces worlds : ℕ) (p : Package) : Type 0 where
  pub interfaces_are : (e : String Global × ℕ) → Has p.interfaces.entries e → e.1 < interfaces
  pub worlds_are : (e : String Global × ℕ) → Has p.worlds.entries e → e.1 < worlds

abbrev pub ArePackagesThere : ℕ → ℕ → List Package → Type 0
ArePackagesThere interfaces worlds packages = (p : Package) → Has packages p → IsPackageThere interfaces worlds p

-- what is found of packages is
abbrev pub FoundAreThere : Type 0
FoundAreThere =
    (eq : PackageName → PackageName → Bool) (features : FeatureSet) (names : List (PackageName × ℕ)) (packages : List Package) (p : UnresolvedPackage) (interfaces worlds : Places) (n m : ℕ)
    → ArePackagesThere n m packages → AreForeignPlaces eq features names packages p interfaces worlds → AreBelow n interfaces × AreBelow m worlds

-- and types that are found of interfaces are, where those that the interfaces name are
abbrev pub FoundTypesAreThere : Type 0
FoundTypesAreThere =
    (interfaces : List Interface) (places : Places) (types defs : List TypeDef)
    → ((d : Interface) → Has interfaces d → AreTypesThere types (map (λ (e : String Global × ℕ). e.1) d.types.entries))
    → AreBelow (length types) (map (type_found interfaces places) defs)
