use Rattle.wit_order.specs.Sorter.{Sorting, AreTurned, unset_count}
use Rattle.wit_order.proofs.places.least_order.Given as goal

abbrev pub invariant-loop-order : goal.invariant-loop-order
invariant-loop-order l = record {
  sorting : Sorting l.needs l.sorter l.order.items;
  turned : AreTurned l.needs l.needed_by.items;
}

abbrev pub decreases-loop-order : goal.decreases-loop-order
decreases-loop-order l = unset_count l.sorter.placed.items
