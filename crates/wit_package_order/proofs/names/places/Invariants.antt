use Rattle.std.proofs.Common.{◌≡◌, take}
use Rattle.wit_types.specs.contracts.«package».PackageNamePartialEq.TheImpl.{eq-value as package_eq}
use Rattle.wit_package_order.specs.Packages.{named}
use Rattle.wit_package_order.specs.Names.{names, AreNew}
use Rattle.wit_package_order.proofs.names.places.Given as goal

abbrev pub invariant-loop-place : goal.invariant-loop-place
invariant-loop-place l = record {
  are : names l.found.entries ≡ named (take l.place l.packages);
  new : AreNew package_eq.it l.packages l.place;
}
