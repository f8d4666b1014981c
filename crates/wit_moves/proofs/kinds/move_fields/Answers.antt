use Rattle.std.proofs.Common.{ap, get_or}
use Rattle.wit_features.specs.Passed.wit_types-declared-kind-Field.{Field}
use Rattle.wit_moves.specs.Moved.{moved_field}
use Rattle.wit_moves.proofs.Mapped.{mapped_more, mapped_all}
use Rattle.wit_moves.proofs.kinds.move_fields.Goals as goal

pub loop-field-preserved : goal.loop-field-preserved
loop-field-preserved g c =
    let x : Field = get_or c.loop-field.fields c.loop-field.field-index c.field-item.result in
    mapped_more (moved_field (g.M.TypeMap.goes c.args.ids.now)) c.loop-field.field-index c.args.fields.now c.loop-field.fields c.field-item.result _ c.loop-field.invariant c.loop-field-test.true (ap (λ t. record x { ty = t }) c.moved_type-field.ensures)

pub returns : goal.returns
returns g c = mapped_all (moved_field (g.M.TypeMap.goes c.args.ids.now)) c.loop-field.field-index c.args.fields.now c.loop-field.fields c.loop-field.invariant c.loop-field-test.false
