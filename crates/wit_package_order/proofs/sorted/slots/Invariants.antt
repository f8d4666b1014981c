use Rattle.std.proofs.Common.{◌≡◌, ◌++◌, Some, map}
use Rattle.wit_types.specs.declared.«package».UnresolvedPackage.{UnresolvedPackage}
use Rattle.wit_package_order.proofs.sorted.slots.Given as goal

abbrev pub invariant-loop-package : goal.invariant-loop-package
invariant-loop-package l = l.slots.items ++ map (λ (p : UnresolvedPackage). Some p) l.package-iterator.rest.items ≡ map (λ (p : UnresolvedPackage). Some p) l.fn.packages.items
