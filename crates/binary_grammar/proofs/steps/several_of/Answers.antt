use Rattle.std.proofs.Common.{◌≡◌, ◌++◌, ◌∷◌, [], ap, sym, subst, ◌∙◌}
use Rattle.std.specs.Prelude.{map}
use Rattle.std.proofs.lemmas.Result.{err_from_is_err_and}
use Rattle.std.specs.List.{All}
use Rattle.std.proofs.lemmas.List.{map_push}
use Rattle.std.proofs.lemmas.List.Elements.{All-push}
use Rattle.binary_grammar.specs.Syntax.{meaning}
use Rattle.binary_grammar.specs.Several.{series, grown}
use Rattle.binary_grammar.proofs.Series.{series_goes_on, series_stops, series_is_done, grown_on}
use Rattle.binary_grammar.proofs.Placing.{behind_part}
use Rattle.binary_grammar.proofs.steps.several_of.Goals as goal

pub returns-in_err-item-clause-gives : goal.returns-in_err-item-clause-gives
returns-in_err-item-clause-gives g c =
    let f = meaning (g.T.Step.next c.args.kind) in
    let start = g.T.Step.known c.args.state.now in
    let p = err_from_is_err_and c.from_residual.result c.from_residual.ensures.1 in
    rw (p.1, p.2) (series_stops f g.T.Step.grow (map g.T.Step.value c.loop.items.items) (g.T.Step.known c.loop.state) c.args.count c.loop.counter c.loop.from.left ((series f g.T.Step.grow c.args.count start).read c.args.from.now.left) c.loop.invariant.so_far c.in_err-item.field-0.0 c.loop-test.true c.in_err-item.ensures.gives)

pub loop-preserved : goal.loop-preserved
loop-preserved g c =
    let f = meaning (g.T.Step.next c.args.kind) in
    let start = g.T.Step.known c.args.state.now in
    let n = c.in_ok-item.item in
    let x = g.T.Step.value n in
    let xs = map g.T.Step.value c.loop.items.items in
    let e : map g.T.Step.value c.push.new.self.items ≡ xs ++ x ∷ [] = rw c.in_ok-push.ensures.items (map_push _ c.loop.items.items n) in
    let known : g.T.Step.known c.read_behind.new.state ≡ grown g.T.Step.grow start (xs ++ x ∷ []) = c.in_ok-item.ensures.grows ∙ (ap (λ k. g.T.Step.grow k x) c.loop.invariant.known ∙ sym (grown_on g.T.Step.grow start xs x)) in
    record {
      so_far = rw (e, c.in_ok-item.ensures.grows) (series_goes_on f g.T.Step.grow xs (g.T.Step.known c.loop.state) c.args.count c.loop.counter c.loop.from.left ((series f g.T.Step.grow c.args.count start).read c.args.from.now.left) c.loop.invariant.so_far x c.read_behind.new.from.left c.loop-test.true c.in_ok-item.ensures.gives);
      known = rw e known;
      within = λ total w. behind_part (g.T.Step.next c.args.kind) (g.T.Step.known c.loop.state) total c.loop.from c.read_behind.new.from x c.read_behind.ensures.end c.in_ok-item.ensures.gives (c.loop.invariant.within total w);
      stands = λ total w. subst (All (g.T.Step.stands total)) (sym c.in_ok-push.ensures.items) (All-push (g.T.Step.stands total) c.loop.items.items n (c.loop.invariant.stands total w) (c.in_ok-item.ensures.stands total (c.loop.invariant.within total w)));
      end = c.read_behind.ensures.end ∙ c.loop.invariant.end;
    }

pub returns-clause-gives : goal.returns-clause-gives
returns-clause-gives g c =
    let f = meaning (g.T.Step.next c.args.kind) in
    let start = g.T.Step.known c.args.state.now in
    series_is_done f g.T.Step.grow (map g.T.Step.value c.loop.items.items) (g.T.Step.known c.loop.state) c.args.count c.loop.counter c.loop.from.left ((series f g.T.Step.grow c.args.count start).read c.args.from.now.left) c.loop.invariant.so_far c.loop-test.false
