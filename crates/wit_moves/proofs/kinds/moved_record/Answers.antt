use Rattle.std.specs.Vec.{with_items}
use Rattle.wit_moves.specs.Moved as spec
use Rattle.wit_moves.proofs.Mapped.{changed_items}
use Rattle.wit_moves.proofs.kinds.moved_record.Goals as goal

pub returns : goal.returns
returns g c =
    spec.moved_record c.args.record_ (record { fields = with_items c.args.record_.fields c.move_fields.new.fields })
    (changed_items (spec.moved_field (g.M.TypeMap.goes c.args.ids.now)) c.args.record_.fields c.move_fields.new.fields c.as_mut_slice.result.now c.move_fields.ensures c.as_mut_slice.ensures.value)
