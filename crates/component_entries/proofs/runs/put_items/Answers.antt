use Rattle.std.proofs.Common.{map, sym, subst}
use Rattle.std.specs.List.{All}
use Rattle.std.proofs.lemmas.List.Elements.{All-tail}
use Rattle.std.proofs.lemmas.Result.{err_from_is_err_and}
use Rattle.binary_grammar.specs.Syntax.{IsTyped}
use Rattle.component_entries.specs.Runs.{run_of}
use Rattle.component_entries.proofs.runs.put_items.Goals as goal

pub returns-in_err-put_run-clause-large : goal.returns-in_err-put_run-clause-large
returns-in_err-put_run-clause-large g c = λ e h.
    let value = g.T.Grouped.value in
    let b = g.T.Grouped.section (value c.args.first.now) in
    let p = err_from_is_err_and c.from_residual-in_err-put_run.result c.from_residual-in_err-put_run.ensures.1 in
    let others = All-tail (IsTyped (g.T.Grouped.item b)) (value c.args.first.now) (run_of g.T.Grouped.section g.T.Grouped.alone b (map value c.args.more.now)) h.1 in
    c.in_err-put_run.ensures.large (cc (p.1, p.2, e)) (subst (λ n. All (IsTyped (g.T.Grouped.item n)) (run_of g.T.Grouped.section g.T.Grouped.alone n (map value c.args.more.now))) (sym c.section_byte-byte.ensures) others)
