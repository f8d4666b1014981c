use Rattle.std.proofs.Common.{arith}
use Rattle.std.proofs.lemmas.List.Elements.{All-map}
use Rattle.std.proofs.lemmas.List.{length-map}
use Rattle.std.proofs.lemmas.Result.{err_from_is_err_and}
use Rattle.binary_grammar.specs.Syntax.{IsTyped}
use Rattle.binary_grammar.proofs.Each.{all_under}
use Rattle.binary_grammar.proofs.part.put_vec.Goals as goal

pub returns-in_err-put_items-clause-large : goal.returns-in_err-put_items-clause-large
returns-in_err-put_items-clause-large g c = λ e h.
    let p = err_from_is_err_and c.from_residual-in_err-put_items.result c.from_residual-in_err-put_items.ensures.1 in
    c.in_err-put_items.ensures.large (cc (e, p.1, p.2)) (all_under (IsTyped g.T.Part.syntax) g.T.Part.value c.args.items.now h.1)

pub returns-clause-typed : goal.returns-clause-typed
returns-clause-typed g c = (omega (arith, length-map c.args.items.now g.T.Part.value), All-map (IsTyped g.T.Part.syntax) g.T.Part.value c.args.items.now c.in_ok-put_items.ensures.typed)
