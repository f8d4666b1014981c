use Rattle.std.proofs.Common.{◌≡◌}
use Rattle.wit_moves.specs.Moved as spec
use Rattle.wit_moves.proofs.Mapped.{mapped}
use Rattle.wit_moves.proofs.kinds.move_types.Given as goal

abbrev pub invariant-loop-ty : goal.invariant-loop-ty
invariant-loop-ty g l = l.types ≡ mapped (spec.moved_ref (g.M.TypeMap.goes l.ids)) l.ty-index l.fn.types
