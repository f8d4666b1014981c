use Rattle.wit_resolution_rows.specs.Whole.{AreWhole}
use Rattle.wit_resolution_rows.proofs.parsing.parsed_each.Given as goal

abbrev pub invariant-loop-group : goal.invariant-loop-group
invariant-loop-group l = AreWhole l.found.items
