use Rattle.std.proofs.Common.{◌≡◌, true, set, drop}
use Rattle.wit_order.specs.Order.{Has}
use Rattle.wit_order.specs.Places.{row}
use Rattle.wit_order.specs.Sorter.{Settled}
use Rattle.wit_order.proofs.sorter.Sorter.place.Given as goal

abbrev pub invariant-loop-other : goal.invariant-loop-other
invariant-loop-other l = record {
  settled : Settled l.needs l.self (Has (drop l.other-index l.waiting));
  flags : l.self.placed.items ≡ set l.fn.self.placed.items l.place true;
  waiting : l.waiting ≡ row l.needed_by l.place;
}
