use Rattle.std.proofs.Common.{◌≡◌, List, [], ◌++◌, sym, ap, ◌∙◌, subst, arith}
use Rattle.std.proofs.lemmas.List.{append_assoc, append-nil, nil_from_length}
use Rattle.wit_finding.specs.Passed.wit_types-declared-interface-Interface.{Interface}
use Rattle.wit_plans.specs.Moves.{AreMovedInterfaces, no_interfaces}
use Rattle.wit_plans.proofs.Adding.{one_interface}
use Rattle.wit_plans.proofs.moves.moved_interfaces.Goals as goal

pub loop-interface-preserved : goal.loop-interface-preserved
loop-interface-preserved c = λ more h.
    let a = c.in_ok-add_interface.ensures in
    let found : List Interface = c.loop-interface.found.items in
    let grown : c.add_interface.new.found.items ++ more ≡ found ++ (a.0 ++ more) = ap (λ (xs : List Interface). xs ++ more) a.2 ∙ append_assoc found a.0 more in
    subst (AreMovedInterfaces c.args.features.now c.args.standing.now c.args.owner c.args.interfaces.items) (sym grown)
    (c.loop-interface.invariant (a.0 ++ more) (rw c.in-Some.ensures.steps.0 (one_interface c.args.features.now c.args.standing.now c.args.owner c.in-Some.interface c.next.new.self.rest.items a.0 more a.1 h)))

pub returns : goal.returns
returns c =
    subst (AreMovedInterfaces c.args.features.now c.args.standing.now c.args.owner c.args.interfaces.items) (append-nil c.loop-interface.found.items)
    (c.loop-interface.invariant [] (let rest = c.loop-interface.interface-iterator.rest in let none = c.in-None.ensures.steps.0 in let size = rest.ok.0 in rw (nil_from_length rest.items (omega (arith, none, size))) no_interfaces))
