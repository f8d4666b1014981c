use Rattle.std.proofs.Common.{◌≡◌, ◌++◌, map}
use Rattle.wit_graph.proofs.packages.interface_ids.Given as goal

abbrev pub invariant-loop-id : goal.invariant-loop-id
invariant-loop-id l = l.ids.items ++ l.id-iterator ≡ map (λ e. e.1) l.«package».interfaces.entries
