use Rattle.std.proofs.Common.{◌≡◌, ◌++◌, flat_map}
use Rattle.wit_sides.specs.Known as spec
use Rattle.wit_sides.proofs.known.add_names.Given as goal

abbrev pub invariant-loop-key : goal.invariant-loop-key
invariant-loop-key l = l.names ++ flat_map spec.name_of l.key-iterator ≡ l.initial.names ++ spec.names_of l.side.entries
