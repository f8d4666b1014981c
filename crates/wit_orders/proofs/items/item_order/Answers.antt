use Rattle.std.proofs.Common.{map, subst, List, ap, ◌∙◌}
use Rattle.wit_orders.specs.Needs.{Entry}
use Rattle.wit_orders.specs.View as seen
use Rattle.wit_orders.proofs.Rows.{IsOrdered}
use Rattle.wit_orders.proofs.items.item_order.Goals as goal

pub returns-clause-ok : goal.returns-clause-ok
returns-clause-ok c =
    subst (λ (es : List Entry). IsOrdered es c.order_of.result) (ap (map seen.entry) c.as_slice.ensures.value ∙ c.in_ok-entries.ensures) c.order_of.ensures.ok
