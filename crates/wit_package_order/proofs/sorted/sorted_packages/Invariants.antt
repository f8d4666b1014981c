use Rattle.wit_package_order.specs.Sorted.{AreTaken}
use Rattle.wit_package_order.proofs.sorted.sorted_packages.Given as goal

abbrev pub invariant-loop-place : goal.invariant-loop-place
invariant-loop-place l = AreTaken l.fn.packages.items l.order l.place-index l.slots.items l.sorted.items
