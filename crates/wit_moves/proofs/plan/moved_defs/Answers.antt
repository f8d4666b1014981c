use Rattle.std.proofs.Common.{◌≡◌, ◌+◌, ℕ, length, List, take, sym, ◌∙◌, subst, arith}
use Rattle.std.proofs.Math.Seq.{take-length}
use Rattle.std.proofs.lemmas.List.{length_push}
use Rattle.std.proofs.lemmas.Iterator.Adapters.{YieldsList-from_vec}
use Rattle.std.proofs.lemmas.Iterator.Consumers.{YieldsList-turn, YieldsList-end}
use Rattle.wit_features.specs.Passed.wit_types-declared-interface-TypeDef.{TypeDef}
use Rattle.wit_moves.specs.Plan.{AreMovedDefs, no_defs}
use Rattle.wit_moves.specs.View as seen
use Rattle.wit_moves.proofs.Planning.{next_moved}
use Rattle.wit_moves.proofs.plan.moved_defs.Goals as goal

pub loop-def-init : goal.loop-def-init
loop-def-init c = (omega arith, rw c.new-found.ensures.items no_defs)

pub loop-def-preserved : goal.loop-def-preserved
loop-def-preserved c =
    let ds = c.args.defs.items in
    let yields = YieldsList-from_vec {s = c.into_iter-def-iterator.result} ds c.into_iter-def-iterator.ensures.into_iter_gives.0 (c.into_iter-def-iterator.ensures.into_iter_gives.1 ∙ c.args.defs.ok.0) in
    let turn = YieldsList-turn yields c.loop-def.yielded c.loop-def.def-iterator c.loop-def.yielded_by c.next.result c.next.new.self c.in-Some.def c.in-Some.is c.next.ensures.steps in
    let n = length c.loop-def.yielded in
    let more = length_push c.loop-def.yielded c.in-Some.def in
    let at : c.loop-def.index ≡ c.args.first + n = c.loop-def.invariant.0 in
    let size : length (c.loop-def.yielded) + 1 ≡ length _ = sym more in (
      omega (arith, at, size),
      subst (λ (m : ℕ). AreMovedDefs (seen.owners c.args.owners.now) c.args.places.now c.args.first (take m ds) c.add_def.new.found.items) (sym more)
          (next_moved (seen.owners c.args.owners.now) c.args.places.now c.args.first ds n c.in-Some.def c.loop-def.found.items c.add_def.new.found.items c.loop-def.index turn.0 turn.1 at c.loop-def.invariant.1 c.in_ok-add_def.ensures),
    )

pub returns : goal.returns
returns c =
    let ds = c.args.defs.items in
    let yields = YieldsList-from_vec {s = c.into_iter-def-iterator.result} ds c.into_iter-def-iterator.ensures.into_iter_gives.0 (c.into_iter-def-iterator.ensures.into_iter_gives.1 ∙ c.args.defs.ok.0) in
    let over = YieldsList-end yields c.loop-def.yielded c.loop-def.def-iterator c.loop-def.yielded_by c.next.result c.next.new.self c.in-None.is c.next.ensures.steps in
    let all : take (length c.loop-def.yielded) ds ≡ ds = rw over.1 (take-length ds) in
    subst (λ (xs : List TypeDef). AreMovedDefs (seen.owners c.args.owners.now) c.args.places.now c.args.first xs c.loop-def.found.items) all c.loop-def.invariant.1
