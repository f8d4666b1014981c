use Rattle.std.proofs.Common.{◌≡◌, ◌+◌, ◌∙◌, List, ◌∷◌, [], sym, subst, ap, length, length-append, arith}
use Rattle.std.proofs.lemmas.Result.{err_from_is_err_and}
use Rattle.wit_order.specs.Places.{row, Rows}
use Rattle.wit_order.specs.Names.{AreFound, asks, asks_of, table, Table, IsLookCause, IsMissCause}
use Rattle.wit_order.proofs.Tables.{rows_step, rows_end, miss_cause, table-length}
use Rattle.wit_order.proofs.names.rows.Goals as goal

pub returns-in_err-row-clause-cause : goal.returns-in_err-row-clause-cause
returns-in_err-row-clause-cause c =
    let p = err_from_is_err_and c.from_residual.result c.from_residual.ensures.1 in
    let a : IsMissCause c.args.kind.now (table c.args.deps.now.entries) c.in_err-row.field-0.0 =
    miss_cause c.args.kind.now c.args.deps.now.entries c.loop-place.place c.index-needs.result.now c.index-needs.ensures c.in_err-row.field-0.0
    (subst (λ (w : List _). IsLookCause c.args.kind.now (table c.args.deps.now.entries) (asks_of w) c.in_err-row.field-0.0) c.as_slice.ensures.value c.in_err-row.ensures.cause) in
    rw (p.1, p.2) a

pub loop-place-preserved : goal.loop-place-preserved
loop-place-preserved c =
    let t : Table = table c.args.deps.now.entries in
    let e = c.in_ok-push.ensures.items in
    let grown : length c.push.new.self.items ≡ length c.loop-place.rows.items + 1 = ap (λ (t : Rows). length t) e ∙ length-append c.loop-place.rows.items (c.in_ok-row.row ∷ []) in
    record {
      size = omega (arith, grown, c.loop-place.invariant.size);
      found = λ i l. subst (λ (g : Rows). AreFound t (asks t i) (row g i)) (sym e)
          (rows_step c.args.deps.now.entries c.loop-place.rows.items c.in_ok-row.row c.index-needs.result.now c.loop-place.place c.loop-place.invariant.size c.loop-place.invariant.found
          c.index-needs.ensures
          (subst (λ (w : List _). AreFound t (asks_of w) c.in_ok-row.row.items) c.as_slice.ensures.value c.in_ok-row.ensures.found) i l);
    }

pub returns-clause-ok : goal.returns-clause-ok
returns-clause-ok c =
    let s = table-length c.args.deps.now.entries in
    rows_end (table c.args.deps.now.entries) c.loop-place.rows.items c.loop-place.place c.loop-place.invariant.size
    (let l = c.loop-place-test.false in let e = c.len-place-end.ensures.len in omega arith)
    (let l = c.loop-place.auto.place-end in let e = c.len-place-end.ensures.len in omega arith)
    c.loop-place.invariant.found
