use Rattle.std.proofs.Common.{take}
use Rattle.wit_types.specs.contracts.«package».PackageNamePartialEq.TheImpl.{eq-value as package_eq}
use Rattle.wit_package_order.specs.Names.{names}
use Rattle.wit_package_order.specs.Rows.{AreRows}
use Rattle.wit_package_order.proofs.order.rows.Given as goal

abbrev pub invariant-loop-package : goal.invariant-loop-package
invariant-loop-package l = AreRows package_eq.it (names l.places.entries) (take l.package-index l.packages) l.rows.items
