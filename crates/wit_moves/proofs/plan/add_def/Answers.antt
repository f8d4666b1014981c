use Rattle.std.proofs.Common.{sym, ap, ◌∙◌}
use Rattle.wit_moves.specs.Moved.{is_placed}
use Rattle.wit_moves.specs.Plan.{adds_nothing, adds_it}
use Rattle.wit_moves.proofs.plan.add_def.Goals as goal

pub returns-in_ok-push : goal.returns-in_ok-push
returns-in_ok-push c =
    let e = c.moved_def.ensures in
    rw c.in_ok-push.ensures.items
    (adds_it c.moved_def.result (ap (is_placed c.args.places.now) (sym c.from_index.ensures) ∙ sym c.has_id.ensures ∙ c.if-has_id.true) (record { name = e.name; kind = e.kind; owner_is = e.owner_is ∙ c.moved_owner-owner.ensures; docs = e.docs; stability = e.stability; span = e.span }))

pub returns-else-has_id : goal.returns-else-has_id
returns-else-has_id c = adds_nothing (ap (is_placed c.args.places.now) (sym c.from_index.ensures) ∙ sym c.has_id.ensures ∙ c.if-has_id.false)
