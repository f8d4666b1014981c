use Rattle.std.proofs.Common.{arith, subst, sym}
use Rattle.std.specs.List.{All}
use Rattle.std.proofs.lemmas.List.Elements.{All-map}
use Rattle.std.proofs.lemmas.List.{length-map}
use Rattle.std.proofs.lemmas.Result.{err_from_is_err_and}
use Rattle.binary_grammar.specs.Syntax.{IsTyped}
use Rattle.binary_grammar.proofs.Each.{all_under}
use Rattle.component_instances.specs.Declarators.{declarator, declarator_value, instance_type}
use Rattle.component_instances.proofs.declarators.InstanceTypePart.put.Goals as goal

pub returns-in_err-put_each-clause-large : goal.returns-in_err-put_each-clause-large
unfolding instance_type
returns-in_err-put_each-clause-large c = λ e h.
    let p = err_from_is_err_and c.from_residual-in_err-put_each.result c.from_residual-in_err-put_each.ensures.1 in
    let each = all_under (IsTyped declarator) declarator_value c.args.self.now.declarators.items h.1 in
    c.in_err-put_each.ensures.large (cc (e, p.1, p.2)) (subst (All (λ x. IsTyped declarator (declarator_value x))) (sym c.deref.ensures.value) each)

pub returns-clause-typed : goal.returns-clause-typed
unfolding instance_type
returns-clause-typed c =
    let each = subst (All (λ x. IsTyped declarator (declarator_value x))) c.deref.ensures.value c.in_ok-put_each.ensures.typed in
    (omega (arith, length-map c.args.self.now.declarators.items declarator_value), All-map (IsTyped declarator) declarator_value c.args.self.now.declarators.items each)
