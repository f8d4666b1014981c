use Rattle.std.specs.Vec.{with_items}
use Rattle.wit_moves.specs.Moved as spec
use Rattle.wit_moves.proofs.Mapped.{changed_items}
use Rattle.wit_moves.proofs.kinds.moved_variant.Goals as goal

pub returns : goal.returns
returns g c =
    spec.moved_variant c.args.variant (record { cases = with_items c.args.variant.cases c.move_cases.new.cases })
    (changed_items (spec.moved_case (g.M.TypeMap.goes c.args.ids.now)) c.args.variant.cases c.move_cases.new.cases c.as_mut_slice.result.now c.move_cases.ensures c.as_mut_slice.ensures.value)
