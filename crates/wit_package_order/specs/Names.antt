-- Packages by their names, as they are found.
use Rattle.std.specs.Prelude.{◌≡◌, ◌<◌, ℕ, Bool, false, List, map, take, is_some, Some, slice_get}
use Rattle.std.specs.Borrow.{Bor}
use Rattle.std.specs.Map.{lookup}
use Rattle.wit_types.specs.declared.«package».PackageName.{PackageName}
use Rattle.wit_types.specs.declared.«package».UnresolvedPackage.{UnresolvedPackage}
use Rattle.wit_package_order.specs.Packages.{named, ComesTwice}
use Rattle.wit_package_order.specs.declared.fault.PackageOrderFault.{PackageOrderFault}
use Rattle.wit_package_order.specs.declared.fault.PackageOrderFault.TheVariants.{Cycle, ComesTwice as Twice, OutOfMemory}

-- names that are lent, each with its place
abbrev pub names : List (Bor PackageName × ℕ) → List (PackageName × ℕ)
names entries = map (λ e. (e.0.now, e.1)) entries

abbrev pub IsNamesCause : (PackageName → PackageName → Bool) → List UnresolvedPackage → PackageOrderFault → Type 0
IsNamesCause eq ps (Cycle at) = ⊥
IsNamesCause eq ps (Twice at) = ComesTwice eq ps at
IsNamesCause eq ps OutOfMemory = Unit {0}

-- none of the first so many has the name of one before it
abbrev pub AreNew : (PackageName → PackageName → Bool) → List UnresolvedPackage → ℕ → Type 0
AreNew eq ps n = (k : ℕ) (p : UnresolvedPackage) → k < n → slice_get ps k ≡ Some p → is_some (lookup (eq p.name) (named (take k ps))) ≡ false
