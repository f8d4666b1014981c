use Rattle.std.proofs.Common.{◌≡◌, length, take}
use Rattle.wit_reach.specs.Needed.{AreSorted}
use Rattle.wit_reach.proofs.needed.by_interface.Given as goal

abbrev pub invariant-loop-id : goal.invariant-loop-id
invariant-loop-id l = record {
  size : length l.of.items ≡ l.interfaces;
  sorted : AreSorted l.types (take l.id-index l.order) l.of.items;
}
