use Rattle.std.proofs.Common.{◌≡◌, drop}
use Rattle.wit_order.specs.Order.{Has}
use Rattle.wit_types.specs.contracts.«package».PackageNamePartialEq.TheImpl.{eq-value as package_eq}
use Rattle.wit_package_order.specs.Packages.{asked}
use Rattle.wit_package_order.specs.Names.{names}
use Rattle.wit_package_order.specs.Rows.{places_in}
use Rattle.wit_package_order.proofs.order.ask_for.Given as goal

abbrev pub invariant-loop-place : goal.invariant-loop-place
invariant-loop-place l = record {
  left : l.place-iterator.iter ≡ drop l.place-iterator.count (asked l.«package»);
  later : Has (places_in package_eq.it (names l.places.entries) l.place-iterator.iter) l.to;
}
