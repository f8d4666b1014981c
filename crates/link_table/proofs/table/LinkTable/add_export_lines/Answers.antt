use Rattle.std.proofs.Common.{[], ◌∷◌, map, ap, ◌∙◌, arith}
use Rattle.std.proofs.lemmas.List.{map-append}
use Rattle.wit_reach.proofs.Holding.{got}
use Rattle.link_lines.specs.Line.{link_value}
use Rattle.link_table.proofs.Rows.{added_next, added_all}
use Rattle.link_table.proofs.table.LinkTable.add_export_lines.Goals as goal

pub loop-index-preserved : goal.loop-index-preserved
loop-index-preserved c = λ is.
    let n = is.exports.so_many in
    let lt = c.loop-index-test.true in
    let size = c.len-index-end.ensures in
    let ok = c.args.self.now.exports.ok.0 in
    let e = got is.table.exports c.loop-index.index (omega (arith, n, lt, size, ok)) in
    added_next is.table.exports c.loop-index.index e.0 _ _ _ (link_value c.in_ok-export_line.field-0) e.1 (c.loop-index.invariant is)
    (ap (map link_value) c.in_ok-push.ensures.items ∙ map-append link_value c.loop-index.lines.items (c.in_ok-export_line.field-0 ∷ [])) (c.in_ok-export_line.ensures is e.0 e.1)

pub returns : goal.returns
returns c = λ is.
    let n = is.exports.so_many in
    let past = c.loop-index-test.false in
    let size = c.len-index-end.ensures in
    let ok = c.args.self.now.exports.ok.0 in
    added_all is.table.exports c.loop-index.index _ _ (omega (arith, n, past, size, ok)) (c.loop-index.invariant is)
