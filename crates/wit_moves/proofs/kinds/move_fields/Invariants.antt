use Rattle.std.proofs.Common.{◌≡◌}
use Rattle.wit_moves.specs.Moved as spec
use Rattle.wit_moves.proofs.Mapped.{mapped}
use Rattle.wit_moves.proofs.kinds.move_fields.Given as goal

abbrev pub invariant-loop-field : goal.invariant-loop-field
invariant-loop-field g l = l.fields ≡ mapped (spec.moved_field (g.M.TypeMap.goes l.ids)) l.field-index l.fn.fields
