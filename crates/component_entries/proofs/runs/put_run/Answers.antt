use Rattle.std.proofs.Common.{◌≡◌, ◌++◌, true, map, drop, ap, sym, subst, ◌∙◌, ◌+◌}
use Rattle.std.proofs.lemmas.Result.{err_from_is_err_and}
use Rattle.binary_grammar.specs.Syntax.{bytes, IsTyped}
use Rattle.component_entries.specs.Runs as spec
use Rattle.component_entries.proofs.Neighbours.{run_goes_on, joins_same, one_written, one_fails}
use Rattle.component_entries.proofs.runs.put_run.Goals as goal

pub returns-in_err-put-clause-large : goal.returns-in_err-put-clause-large
returns-in_err-put-clause-large g c =
    let section = g.T.Grouped.section in
    let alone = g.T.Grouped.alone in
    let value = g.T.Grouped.value in
    let b = c.args.byte in
    let xs = c.args.items.now in
    let i = c.loop-item.item-index in
    let v = value c.item-item.result in
    let j : spec.joins section alone b v ≡ true = cc in
    let p = err_from_is_err_and c.from_residual.result c.from_residual.ensures.1 in
    λ e. one_fails (bytes (g.T.Grouped.item b)) (IsTyped (g.T.Grouped.item b)) (spec.run_of section alone b (map value xs)) (spec.run_of section alone b (map value (drop i xs))) c.args.out.now.items c.loop-item.out.items c.loop-item.invariant v (spec.run_of section alone b (map value (drop (i + 1) xs)))
    (run_goes_on section alone value b xs i c.item-item.result c.loop-item-test.true c.item-item.is j)
    (λ h. c.in_err-put.ensures.large (cc (p.1, p.2, e)) (subst (λ n. IsTyped (g.T.Grouped.item n) v) (sym (joins_same section alone b v j)) h))

pub loop-item-preserved : goal.loop-item-preserved
loop-item-preserved g c =
    let section = g.T.Grouped.section in
    let alone = g.T.Grouped.alone in
    let value = g.T.Grouped.value in
    let b = c.args.byte in
    let xs = c.args.items.now in
    let i = c.loop-item.item-index in
    let v = value c.item-item.result in
    let j : spec.joins section alone b v ≡ true = cc in
    let same = joins_same section alone b v j in
    one_written (bytes (g.T.Grouped.item b)) (IsTyped (g.T.Grouped.item b)) (spec.run_of section alone b (map value xs)) (spec.run_of section alone b (map value (drop i xs))) c.args.out.now.items c.loop-item.out.items c.loop-item.invariant v (spec.run_of section alone b (map value (drop (i + 1) xs)))
    (run_goes_on section alone value b xs i c.item-item.result c.loop-item-test.true c.item-item.is j)
    c.put.new.out.items
    (c.in_ok-put.ensures.bytes ∙ ap (λ n. c.loop-item.out.items ++ bytes (g.T.Grouped.item n) v) same)
    (subst (λ n. IsTyped (g.T.Grouped.item n) v) same c.in_ok-put.ensures.typed)
