use Rattle.std.proofs.Common.{◌≡◌, ◌++◌, flat_map}
use Rattle.wit_reach.specs.Lists as spec
use Rattle.wit_reach.proofs.world.add_all_listed.Given as goal

abbrev pub invariant-loop-key : goal.invariant-loop-key
invariant-loop-key l = l.ids.items ++ flat_map spec.listed l.key-iterator ≡ l.fn.ids.items ++ spec.listed_in l.fn.side.entries
