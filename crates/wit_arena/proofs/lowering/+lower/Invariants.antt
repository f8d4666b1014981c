use Rattle.std.proofs.Common.{map, Some}
use Rattle.wit_type_names.specs.TypeView.{type_part}
use Rattle.wit_arena.proofs.Rows.{GoesOn}
use Rattle.wit_arena.proofs.lowering.+lower.Given as goal

abbrev pub invariant-lower_row-loop-part : goal.invariant-lower_row-loop-part
invariant-lower_row-loop-part l = GoesOn type_part l.table l.fn.types l.parts l.types (map (λ r. Some r) l.found.items) l.part-index
