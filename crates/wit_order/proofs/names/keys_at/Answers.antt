use Rattle.std.proofs.Common.{◌≡◌, ℕ, ◌+◌, List, sym, subst, take, get_or, true, false}
use Rattle.std.specs.Borrow.{Bor}
use Rattle.wit_order.specs.Names.{AreKeysAt, table, texts}
use Rattle.wit_order.proofs.Lists.{has_get}
use Rattle.wit_order.proofs.Tables.{keys_step, key_read}
use Rattle.wit_order.proofs.names.keys_at.Goals as goal

pub unreachable-requires : goal.unreachable-requires
unreachable-requires c =
    let no_value : false ≡ true = c.in_default.ensures.found.1 (c.requires _ (has_get c.args.order.now c.loop-place.place-index c.loop-place-test.true)) in cc

pub loop-place-preserved : goal.loop-place-preserved
loop-place-preserved c =
    subst (λ (n : List (Bor (List ℕ))). AreKeysAt (table c.args.deps.now.entries) (take (c.loop-place.place-index + 1) c.args.order.now) (texts n)) (sym c.in_ok-push.ensures.items)
    (keys_step (table c.args.deps.now.entries) c.args.order.now c.loop-place.place-index c.loop-place.names.items c.in-Some.name.now c.loop-place-test.true c.loop-place.invariant
    (key_read c.args.deps.now.entries (get_or c.args.order.now c.loop-place.place-index 0) (c.in-Some.name.now, c.in-Some.field-0-1.now) (sym c.in-Some.ensures.entry)))
