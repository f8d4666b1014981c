use Rattle.std.proofs.Common.{◌+◌, arith, refl}
use Rattle.wit_types.specs.contracts.«package».PackageNamePartialEq.TheImpl.{eq-value as package_eq}
use Rattle.wit_package_order.specs.Packages.{DependsOn}
use Rattle.wit_package_order.specs.Sorted.{AreTaken}
use Rattle.wit_package_order.proofs.Taking.{at_below, is_some, is_taken, all_taken, none_taken}
use Rattle.wit_package_order.proofs.sorted.sorted_packages.Goals as goal
use Rattle.wit_package_order.proofs.sorted.sorted_packages.Goals.{in-Some+in_ok-push, in_default}

pub taken-requires : goal.taken-requires
taken-requires c = at_below c.args.packages.items c.args.order.now _ (DependsOn package_eq.it c.args.packages.items) c.requires.is_order refl c.loop-place.place-index c.loop-place-test.true c.loop-place.slots.items c.loop-place.sorted.items c.loop-place.invariant

pub loop-place-init : goal.loop-place-init
loop-place-init c = none_taken c.args.packages.items c.args.order.now c.in_ok-slots.slots.items c.new-sorted.result.items c.in_ok-slots.ensures c.new-sorted.ensures.items

pub loop-place-preserved : goal.loop-place-preserved
loop-place-preserved c =
    elim c.match-taken.branch as (λ _. AreTaken c.args.packages.items c.args.order.now (c.loop-place.place-index + 1) c.taken.new.slots.items c.match-taken.sorted.items) [
      | in-Some+in_ok-push w ↦
          is_taken c.args.packages.items c.args.order.now _ (DependsOn package_eq.it c.args.packages.items) c.requires.is_order refl c.loop-place.place-index c.loop-place-test.true c.loop-place.slots.items c.loop-place.sorted.items c.loop-place.invariant
          c.taken.result w.in-Some.package c.taken.new.slots.items c.match-taken.sorted.items c.taken.ensures.was w.in-Some.is c.taken.ensures.now (rw (w.sorted-is) w.in_ok-push.ensures.items)
      | in_default w ↦
          absurd
          (is_some c.args.packages.items c.args.order.now _ (DependsOn package_eq.it c.args.packages.items) c.requires.is_order refl c.loop-place.place-index c.loop-place-test.true c.loop-place.slots.items c.loop-place.sorted.items c.loop-place.invariant c.taken.result c.taken.ensures.was w.in_default.is)
    ]

pub returns : goal.returns
returns c = all_taken c.args.packages.items c.args.order.now c.loop-place.place-index c.loop-place.slots.items c.loop-place.sorted.items (omega (arith, c.loop-place-test.false)) c.loop-place.invariant
