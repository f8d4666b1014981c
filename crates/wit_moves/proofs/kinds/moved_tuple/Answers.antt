use Rattle.std.specs.Vec.{with_items}
use Rattle.wit_moves.specs.Moved as spec
use Rattle.wit_moves.proofs.Mapped.{changed_items}
use Rattle.wit_moves.proofs.kinds.moved_tuple.Goals as goal

pub returns : goal.returns
returns g c =
    spec.moved_tuple c.args.tuple (record { types = with_items c.args.tuple.types c.move_types.new.types })
    (changed_items (spec.moved_ref (g.M.TypeMap.goes c.args.ids.now)) c.args.tuple.types c.move_types.new.types c.as_mut_slice.result.now c.move_types.ensures c.as_mut_slice.ensures.value)
