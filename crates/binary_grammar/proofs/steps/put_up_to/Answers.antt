use Rattle.std.proofs.lemmas.List.Elements.{All-map}
use Rattle.std.proofs.lemmas.Result.{err_from_is_err_and}
use Rattle.binary_grammar.specs.Syntax.{IsTyped}
use Rattle.binary_grammar.proofs.Each.{all_under}
use Rattle.binary_grammar.proofs.steps.put_up_to.Goals as goal

pub returns-in_err-put_each-clause-large : goal.returns-in_err-put_each-clause-large
returns-in_err-put_each-clause-large g c = λ e h.
    let p = err_from_is_err_and c.from_residual.result c.from_residual.ensures.1 in
    c.in_err-put_each.ensures.large (cc (e, p.1, p.2)) (all_under (λ x. IsTyped (g.T.Instruction.next (g.T.Instruction.which x)) x) g.T.Instruction.value c.args.items.now h)

pub returns-clause-typed : goal.returns-clause-typed
returns-clause-typed g c = All-map (λ x. IsTyped (g.T.Instruction.next (g.T.Instruction.which x)) x) g.T.Instruction.value c.args.items.now c.in_ok-put_each.ensures.typed
