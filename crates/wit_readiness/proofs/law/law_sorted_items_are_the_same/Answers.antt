-- The order has each interface and world, and no other.
use Rattle.wit_readiness.proofs.Sorted.{same_items}
use Rattle.wit_readiness.proofs.law.law_sorted_items_are_the_same.Goals as goal

pub returns : goal.returns
returns c = same_items
