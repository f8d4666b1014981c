use Rattle.std.proofs.Common.{◌≡◌, List, [], ◌∷◌, ◌++◌, inl, inr, refl, sym, ap, ◌∙◌, subst, length, append_assoc}
use Rattle.std.proofs.lemmas.List.{append-nil}
use Rattle.std.proofs.lemmas.Result.{err_from_is_err_and}
use Rattle.wit_types.specs.Passed.wit_order-Order.{Has}
use Rattle.wit_uses.specs.Passed.wit_plans-declared-moves-MovedWorld.{MovedWorld}
use Rattle.wit_graph_worlds.specs.Worlds.{state}
use Rattle.wit_graph_worlds.specs.Added.{none_added, one_added}
use Rattle.wit_graph_worlds.proofs.Adding.{own_grown, grown_more}
use Rattle.wit_graph_worlds.proofs.worlds.add_worlds.Goals as goal

pub loop-world-init : goal.loop-world-init
loop-world-init c =
    let same : c.into_iter-world-iterator.result.rest.items ≡ c.args.moved.items = c.into_iter-world-iterator.ensures.into_iter_gives.0 in
    record {
      done = [];
      left = sym same;
      added = none_added (state c.args.types.now c.args.worlds.now);
      sound = c.requires.sound;
      elaborated = c.requires.elaborated;
      there = λ m h. c.requires.there m (subst (λ (ms : List MovedWorld). Has ms m) same h);
      types_grown = ([], sym (append-nil c.args.types.now));
      listed_grown = ([], sym (append-nil c.args.worlds.now.listed));
      elaborated_grown = ([], sym (append-nil c.args.worlds.now.elaborated));
    }

pub add_world-requires-clause-there : goal.add_world-requires-clause-there
add_world-requires-clause-there c =
    let m = c.in-Some.world in
    c.loop-world.invariant.there m (subst (λ (ms : List MovedWorld). Has ms m) (sym c.in-Some.ensures.steps.0) (inl refl))

pub loop-world-preserved : goal.loop-world-preserved
loop-world-preserved c =
    let i = c.args.interfaces.now in
    let inv = c.loop-world.invariant in
    let m : MovedWorld = c.in-Some.world in
    let rest = c.next.new.self.rest.items in
    let first = state c.args.types.now c.args.worlds.now in
    let before = state c.loop-world.types c.loop-world.worlds in
    let last = state c.add_world.new.types c.add_world.new.worlds in
    let a = c.in_ok-add_world.ensures in
    record {
      done = inv.done ++ m ∷ [];
      left = inv.left ∙ (ap (λ (ms : List MovedWorld). inv.done ++ ms) c.in-Some.ensures.steps.0 ∙ sym (append_assoc inv.done (m ∷ []) rest));
      added = one_added inv.done m first before last inv.added a.ok;
      sound = a.sound;
      elaborated = a.elaborated;
      there = λ other h. own_grown c.loop-world.types c.add_world.new.types a.types_grown.0 (length i.uses.now) other a.types_grown.1 (inv.there other (subst (λ (ms : List MovedWorld). Has ms other) (sym c.in-Some.ensures.steps.0) (inr h)));
      types_grown = grown_more c.args.types.now c.loop-world.types c.add_world.new.types inv.types_grown a.types_grown;
      listed_grown = grown_more c.args.worlds.now.listed c.loop-world.worlds.listed c.add_world.new.worlds.listed inv.listed_grown a.listed_grown;
      elaborated_grown = grown_more c.args.worlds.now.elaborated c.loop-world.worlds.elaborated c.add_world.new.worlds.elaborated inv.elaborated_grown a.elaborated_grown;
    }

pub returns-in_err-add_world-clause-cause : goal.returns-in_err-add_world-clause-cause
returns-in_err-add_world-clause-cause c =
    let p = err_from_is_err_and c.from_residual.result c.from_residual.ensures.1 in
    let inv = c.loop-world.invariant in
    rw (p.1, p.2) (record {
      before = inv.done;
      one = c.in-Some.world;
      after = c.next.new.self.rest.items;
      split = inv.left ∙ ap (λ (ms : List MovedWorld). inv.done ++ ms) c.in-Some.ensures.steps.0;
      state = state c.loop-world.types c.loop-world.worlds;
      added = inv.added;
      cause = c.in_err-add_world.ensures.cause;
    })
