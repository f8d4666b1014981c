use Rattle.std.proofs.Common.{◌∙◌, ap, map}
use Rattle.flat_types.specs.Flats.{part_flat}
use Rattle.flat_types.specs.View.{flat_value, known_value}
use Rattle.flat_types.proofs.Gathering.{fields_step, fields_end}
use Rattle.flat_types.proofs.flat.of_fields.Goals as goal

pub loop-part-preserved : goal.loop-part-preserved
loop-part-preserved g c =
    c.in_ok-append.ensures
    ∙ fields_step (λ (p : g.row.P.Denot). part_flat (map flat_value c.args.known.now) (g.P.Part.part p)) c.args.parts.now c.loop-part.part-index c.part-item.result c.loop-part-test.true c.part-item.is
    (flat_value c.loop-part.flat) (known_value c.of_part.result) c.loop-part.invariant (c.of_part.ensures ∙ ap (part_flat (map flat_value c.args.known.now)) c.ty.ensures)

pub returns : goal.returns
returns g c =
    fields_end (λ (p : g.row.P.Denot). part_flat (map flat_value c.args.known.now) (g.P.Part.part p)) c.args.parts.now c.loop-part.part-index c.loop-part-test.false (flat_value c.loop-part.flat) c.loop-part.invariant
