use Rattle.std.proofs.Common.{◌≡◌, List, [], ◌∷◌, ◌++◌, arith, sym, subst, ap, ◌∙◌, append_assoc}
use Rattle.std.proofs.lemmas.List.{append-nil, nil_from_length}
use Rattle.wit_order.specs.Order.{Has}
use Rattle.wit_types.specs.declared.interface.Interface.{Interface}
use Rattle.wit_graph_parts.specs.Interfaces as spec
use Rattle.wit_graph_parts.proofs.Rows.{added_none, added_then, grown_added, grown_then, has_mid}
use Rattle.wit_graph_parts.proofs.interfaces.Interfaces.extend.Goals as goal

pub loop-interface-init : goal.loop-interface-init
loop-interface-init c = ([], sym c.into_iter-interface-iterator.ensures.into_iter_gives.0, added_none c.args.types.now c.args.self.now)

pub push-requires-clause-there : goal.push-requires-clause-there
push-requires-clause-there c =
    let d : Interface = c.in-Some.interface in
    let i = c.loop-interface.invariant in
    c.requires.there d (subst (λ (xs : List Interface). Has xs d) (sym (i.1 ∙ ap (λ (r : List Interface). i.0 ++ r) c.in-Some.ensures.steps.0)) (has_mid i.0 c.next.new.self.rest.items d))

pub loop-interface-preserved : goal.loop-interface-preserved
loop-interface-preserved c =
    let d : Interface = c.in-Some.interface in
    let i = c.loop-interface.invariant in (
      i.0 ++ d ∷ [],
      i.1 ∙ ap (λ (r : List Interface). i.0 ++ r) c.in-Some.ensures.steps.0 ∙ sym (append_assoc i.0 (d ∷ []) c.next.new.self.rest.items),
      added_then c.args.types.now i.0 (d ∷ []) c.args.self.now c.loop-interface.self c.push.new.self i.2 c.in_ok-push.ensures.ok,
    )

pub returns-in_err-push-clause-grown : goal.returns-in_err-push-clause-grown
returns-in_err-push-clause-grown c =
    let i = c.loop-interface.invariant in
    grown_then c.args.self.now c.loop-interface.self c.push.new.self (grown_added c.args.types.now i.0 c.args.self.now c.loop-interface.self i.2) c.push.ensures.grown

pub returns-clause-ok : goal.returns-clause-ok
returns-clause-ok c =
    let rest = c.loop-interface.interface-iterator.rest in
    let none = c.in-None.ensures.steps.0 in
    let size = rest.ok.0 in
    let i = c.loop-interface.invariant in
    let all : c.args.interfaces.items ≡ i.0 = i.1 ∙ ap (λ (r : List Interface). i.0 ++ r) (nil_from_length rest.items (omega (arith, none, size))) ∙ append-nil i.0 in
    subst (λ (xs : List Interface). spec.AreAdded c.args.types.now xs c.args.self.now c.loop-interface.self) (sym all) i.2

pub returns-clause-grown : goal.returns-clause-grown
returns-clause-grown c = (let i = c.loop-interface.invariant in grown_added c.args.types.now i.0 c.args.self.now c.loop-interface.self i.2)
