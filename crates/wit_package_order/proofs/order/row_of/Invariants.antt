use Rattle.std.proofs.Common.{◌≡◌, ◌++◌}
use Rattle.wit_types.specs.contracts.«package».PackageNamePartialEq.TheImpl.{eq-value as package_eq}
use Rattle.wit_package_order.specs.Packages.{asked}
use Rattle.wit_package_order.specs.Names.{names}
use Rattle.wit_package_order.specs.Rows.{places_in}
use Rattle.wit_package_order.proofs.order.row_of.Given as goal

abbrev pub invariant-loop-name : goal.invariant-loop-name
invariant-loop-name l = l.row.items ++ places_in package_eq.it (names l.places.entries) l.name-iterator ≡ places_in package_eq.it (names l.places.entries) (asked l.«package»)
