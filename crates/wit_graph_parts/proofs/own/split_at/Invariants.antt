use Rattle.wit_graph_parts.proofs.Taking.{AreHalves}
use Rattle.wit_graph_parts.proofs.own.split_at.Given as goal

abbrev pub invariant-loop-item : goal.invariant-loop-item
invariant-loop-item g l = AreHalves l.so_many l.fn.items.items l.first.items l.others.items l.item-iterator.rest.items
