-- Groups that may be pushed.
use Rattle.std.specs.Prelude.{List}
use Rattle.wit_order.specs.Order.{Has}
use Rattle.wit_types.specs.declared.«package».UnresolvedPackage.{UnresolvedPackage}
use Rattle.wit_resolution.specs.Groups.{UnresolvedPackageGroup, packages_of}
use Rattle.wit_resolution.specs.Own.{IsWellFormed}

-- each of its packages is well formed
abbrev pub IsWhole : UnresolvedPackageGroup → Type 0
IsWhole g = (p : UnresolvedPackage) → Has (packages_of g) p → IsWellFormed p

-- each group is so
abbrev pub AreWhole : List UnresolvedPackageGroup → Type 0
AreWhole gs = (g : UnresolvedPackageGroup) → Has gs g → IsWhole g
