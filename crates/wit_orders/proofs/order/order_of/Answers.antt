use Rattle.std.proofs.Common.{◌<◌, List, ℕ, map, subst}
use Rattle.std.proofs.lemmas.List.{length-map}
use Rattle.wit_order.specs.Places.{Rows, IsCircle, IsSorted}
use Rattle.wit_orders.specs.Needs.{Entry}
use Rattle.wit_orders.specs.View as seen
use Rattle.wit_orders.proofs.Rows.{rows_below, order_is, no_circle_breaks, circle_within, circle_breaks}
use Rattle.wit_orders.proofs.order.order_of.Goals as goal

pub least_order-requires : goal.least_order-requires
least_order-requires c = rw c.as_slice.ensures.value (rows_below (map seen.entry c.args.entries.now) c.in_ok-rows.rows.items c.in_ok-rows.ensures)

pub returns-in-Ok-clause-ok : goal.returns-in-Ok-clause-ok
returns-in-Ok-clause-ok c =
    let es : List Entry = map seen.entry c.args.entries.now in
    let g : Rows = c.in_ok-rows.rows.items in
    let sorted : IsSorted g c.in-Ok.order.items = rw c.as_slice.ensures.value at c.in-Ok.ensures.ok in
    (order_is es g c.in_ok-rows.ensures c.in-Ok.order.items sorted, no_circle_breaks es g c.in_ok-rows.ensures c.in-Ok.order.items sorted)

pub circle_at-requires : goal.circle_at-requires
circle_at-requires c =
    let from : ℕ = c.in-Err-Circle.circle.from in
    let need : ℕ = c.in-Err-Circle.circle.need in
    let circle : IsCircle c.in_ok-rows.rows.items from need = rw (c.in-Err-Circle.field-0-is, c.as_slice.ensures.value) at c.in-Err-Circle.ensures.cause in
    subst (λ (n : ℕ). from < n) (length-map c.args.entries.now seen.entry) (circle_within (map seen.entry c.args.entries.now) c.in_ok-rows.rows.items c.in_ok-rows.ensures from need circle)

pub returns-clause-cause : goal.returns-clause-cause
returns-clause-cause c =
    let from : ℕ = c.in-Err-Circle.circle.from in
    let need : ℕ = c.in-Err-Circle.circle.need in
    let circle : IsCircle c.in_ok-rows.rows.items from need = rw (c.in-Err-Circle.field-0-is, c.as_slice.ensures.value) at c.in-Err-Circle.ensures.cause in
    circle_breaks (map seen.entry c.args.entries.now) c.in_ok-rows.rows.items c.in_ok-rows.ensures from need circle c.circle_at.ensures.0 c.circle_at.ensures.1 c.circle_at.result c.circle_at.ensures.2
