use Rattle.std.proofs.Common.{◌≡◌}
use Rattle.wit_moves.specs.Moved as spec
use Rattle.wit_moves.proofs.Mapped.{mapped}
use Rattle.wit_moves.proofs.kinds.move_cases.Given as goal

abbrev pub invariant-loop-case : goal.invariant-loop-case
invariant-loop-case g l = l.cases ≡ mapped (spec.moved_case (g.M.TypeMap.goes l.ids)) l.case-index l.fn.cases
