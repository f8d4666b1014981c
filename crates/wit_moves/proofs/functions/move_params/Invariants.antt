use Rattle.std.proofs.Common.{◌≡◌}
use Rattle.wit_moves.specs.Moved as spec
use Rattle.wit_moves.proofs.Mapped.{mapped}
use Rattle.wit_moves.proofs.functions.move_params.Given as goal

abbrev pub invariant-loop-param : goal.invariant-loop-param
invariant-loop-param g l = l.params ≡ mapped (spec.moved_param (g.M.TypeMap.goes l.ids)) l.param-index l.fn.params
