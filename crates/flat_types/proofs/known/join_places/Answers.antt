use Rattle.std.proofs.Common.{sym, ◌∙◌}
use Rattle.std.proofs.lemmas.Option.{slice_get-get_or}
use Rattle.flat_types.proofs.Capped.{join_nothing}
use Rattle.flat_types.proofs.Gathering.{joined_more}
use Rattle.flat_types.proofs.known.join_places.Goals as goal

pub loop-place-init : goal.loop-place-init
loop-place-init c = sym (join_nothing c.args.places.now.items)

pub loop-place-preserved : goal.loop-place-preserved
loop-place-preserved c =
    c.in_ok-put.ensures
    ∙ joined_more c.args.places.now.items c.loop-place.places.items c.args.others.now c.loop-place.place _ c.loop-place.invariant (slice_get-get_or c.args.others.now c.loop-place.place _ c.loop-place-test.true)
