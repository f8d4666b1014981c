use Rattle.std.proofs.Common.{◌≡◌, ◌++◌}
use Rattle.wit_graph.proofs.packages.interfaces_of.Given as goal

abbrev pub invariant-loop-index : goal.invariant-loop-index
invariant-loop-index l = l.found.items ++ l.index-iterator ≡ l.set.keys
