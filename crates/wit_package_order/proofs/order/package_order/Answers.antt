use Rattle.std.proofs.Common.{List, ℕ, subst}
use Rattle.wit_order.specs.Places.{IsSorted}
use Rattle.wit_types.specs.declared.«package».PackageName.{PackageName}
use Rattle.wit_types.specs.contracts.«package».PackageNamePartialEq.TheImpl.{eq-value as package_eq}
use Rattle.wit_package_order.specs.Rows.{AreRows}
use Rattle.wit_package_order.proofs.Naming.{are_distinct}
use Rattle.wit_package_order.proofs.Rows.{rows_below, is_ordered}
use Rattle.wit_package_order.proofs.order.package_order.Goals as goal

pub least_order-requires : goal.least_order-requires
least_order-requires c =
    rw c.as_slice.ensures.value
    (rows_below package_eq.it c.args.packages.now c.in_ok-rows.rows.items (subst (λ (es : List (PackageName × ℕ)). AreRows package_eq.it es c.args.packages.now c.in_ok-rows.rows.items) c.in_ok-places.ensures.ok c.in_ok-rows.ensures))

pub returns-in-Ok-clause-ok : goal.returns-in-Ok-clause-ok
returns-in-Ok-clause-ok c =
    let are = subst (λ (es : List (PackageName × ℕ)). AreRows package_eq.it es c.args.packages.now c.in_ok-rows.rows.items) c.in_ok-places.ensures.ok c.in_ok-rows.ensures in
    let sorted : IsSorted c.in_ok-rows.rows.items c.in-Ok.order.items = rw c.as_slice.ensures.value at c.in-Ok.ensures.ok in
    is_ordered package_eq.it c.args.packages.now c.in_ok-rows.rows.items are c.in-Ok.order.items sorted (are_distinct package_eq.it c.args.packages.now c.in_ok-places.ensures.distinct)

pub circle_at-requires-clause-circle : goal.circle_at-requires-clause-circle
circle_at-requires-clause-circle c = rw c.as_slice-in-Err-Circle.ensures.value (rw (c.in-Err-Circle.field-0-is, c.as_slice.ensures.value) at c.in-Err-Circle.ensures.cause)
