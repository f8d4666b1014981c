use Rattle.std.proofs.Common.{◌≡◌, List, [], ◌++◌, sym, ap, ◌∙◌, subst, arith}
use Rattle.std.proofs.lemmas.List.{append_assoc, append-nil, nil_from_length}
use Rattle.wit_plans.specs.declared.moves.MovedWorld.{MovedWorld}
use Rattle.wit_plans.specs.Moves.{AreMovedWorlds, no_worlds}
use Rattle.wit_plans.proofs.Adding.{one_world}
use Rattle.wit_plans.proofs.moves.moved_worlds.Goals as goal

pub loop-world-preserved : goal.loop-world-preserved
loop-world-preserved c = λ more h.
    let a = c.in_ok-add_world.ensures in
    let found : List MovedWorld = c.loop-world.found.items in
    let grown : c.add_world.new.found.items ++ more ≡ found ++ (a.0 ++ more) = ap (λ (xs : List MovedWorld). xs ++ more) a.2 ∙ append_assoc found a.0 more in
    subst (AreMovedWorlds c.args.features.now c.args.standing.now c.args.worlds.items) (sym grown)
    (c.loop-world.invariant (a.0 ++ more) (rw c.in-Some.ensures.steps.0 (one_world c.args.features.now c.args.standing.now c.in-Some.world c.next.new.self.rest.items a.0 more a.1 h)))

pub returns : goal.returns
returns c =
    subst (AreMovedWorlds c.args.features.now c.args.standing.now c.args.worlds.items) (append-nil c.loop-world.found.items)
    (c.loop-world.invariant [] (let rest = c.loop-world.world-iterator.rest in let none = c.in-None.ensures.steps.0 in let size = rest.ok.0 in rw (nil_from_length rest.items (omega (arith, none, size))) no_worlds))
