use Rattle.std.proofs.Common.{◌≡◌, ◌++◌, ◌∷◌, [], ◌∙◌}
use Rattle.std.specs.Prelude.{map}
use Rattle.std.proofs.lemmas.Result.{err_from_is_err_and}
use Rattle.std.proofs.lemmas.List.{map_push}
use Rattle.binary_grammar.specs.Syntax.{meaning}
use Rattle.binary_grammar.specs.Several.{series}
use Rattle.binary_grammar.proofs.Series.{series_goes_on, series_stops, series_is_done}
use Rattle.binary_grammar.proofs.part.items_of.Goals as goal

pub returns-in_err-item-clause-gives : goal.returns-in_err-item-clause-gives
returns-in_err-item-clause-gives g c =
    let f = meaning g.T.Part.syntax in
    let known = g.T.Part.known c.args.there in
    let p = err_from_is_err_and c.from_residual.result c.from_residual.ensures.1 in
    rw (p.1, p.2) (series_stops f (λ k _. k) (map g.T.Part.value c.loop.items.items) known c.args.count c.loop.counter c.loop.from.left ((series f (λ k _. k) c.args.count known).read c.args.from.now.left) c.loop.invariant.so_far c.in_err-item.field-0.0 c.loop-test.true c.in_err-item.ensures.gives)

pub loop-preserved : goal.loop-preserved
loop-preserved g c =
    let f = meaning g.T.Part.syntax in
    let known = g.T.Part.known c.args.there in
    let n = c.in_ok-item.item in
    let e : map g.T.Part.value c.push.new.self.items ≡ map g.T.Part.value c.loop.items.items ++ g.T.Part.value n ∷ [] = rw c.in_ok-push.ensures.items (map_push _ c.loop.items.items n) in
    record {
      so_far = rw e (series_goes_on f (λ k _. k) (map g.T.Part.value c.loop.items.items) known c.args.count c.loop.counter c.loop.from.left ((series f (λ k _. k) c.args.count known).read c.args.from.now.left) c.loop.invariant.so_far (g.T.Part.value n) c.read.new.from.left c.loop-test.true c.in_ok-item.ensures.gives);
      end = c.read.ensures.end ∙ c.loop.invariant.end;
    }

pub returns-clause-gives : goal.returns-clause-gives
returns-clause-gives g c =
    let f = meaning g.T.Part.syntax in
    let known = g.T.Part.known c.args.there in
    series_is_done f (λ k _. k) (map g.T.Part.value c.loop.items.items) known c.args.count c.loop.counter c.loop.from.left ((series f (λ k _. k) c.args.count known).read c.args.from.now.left) c.loop.invariant.so_far c.loop-test.false
