use Rattle.std.proofs.Common.{◌≡◌, ◌++◌, take}
use Rattle.wit_closures.proofs.lists.append.Given as goal

abbrev pub invariant-loop-item : goal.invariant-loop-item
invariant-loop-item l = l.items.items ≡ l.initial.items.items ++ take l.item-index l.more
