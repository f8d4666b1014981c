use Rattle.std.proofs.Common.{ℕ, ◌+◌, ◌<◌, List, [], sym, subst, take, refl, length, arith}
use Rattle.wit_order.specs.Names.{AreFound, asks_of, table}
use Rattle.wit_order.specs.declared.names.Need.{Need}
use Rattle.wit_order.proofs.Tables.{has_ask, found_step, place_read, table-length}
use Rattle.wit_order.proofs.names.places.Goals as goal

abbrev any : Need
any = record { name = record { ref_ptr = (0, 0); now = [] }; span = record { start = 0; end = 0 } }

pub returns-in-None-clause-cause : goal.returns-in-None-clause-cause
returns-in-None-clause-cause c =
    (refl, has_ask c.args.needs.now c.loop-need.need-index any c.loop-need-test.true, place_read c.args.deps.now.entries _ _ (sym c.in-None.ensures.index))

pub loop-need-preserved : goal.loop-need-preserved
loop-need-preserved c =
    let l : c.in-Some.place < length (table c.args.deps.now.entries) = (let a = c.in-Some.ensures.within in let b = table-length c.args.deps.now.entries in omega arith) in
    subst (λ (r : List ℕ). AreFound (table c.args.deps.now.entries) (asks_of (take (c.loop-need.need-index + 1) c.args.needs.now)) r) (sym c.in_ok-push-in-Some.ensures.items)
    (found_step (table c.args.deps.now.entries) c.args.needs.now c.loop-need.need-index any c.loop-need.row.items c.in-Some.place
    c.loop-need-test.true c.loop-need.invariant (place_read c.args.deps.now.entries _ _ (sym c.in-Some.ensures.index)) l)
