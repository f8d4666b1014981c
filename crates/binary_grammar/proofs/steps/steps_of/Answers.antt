use Rattle.std.proofs.Common.{◌≡◌, ◌++◌, ◌∷◌, ℕ, List, [], length, eqb, true, false, sym, subst}
use Rattle.std.specs.Prelude.{map}
use Rattle.std.proofs.lemmas.Result.{err_from_is_err_and}
use Rattle.std.specs.List.{All}
use Rattle.std.proofs.lemmas.List.{map_push}
use Rattle.std.proofs.lemmas.List.Elements.{All-push}
use Rattle.binary_grammar.specs.Format as format
use Rattle.binary_grammar.specs.Syntax.{meaning, steps}
use Rattle.binary_grammar.specs.Place.{Within}
use Rattle.binary_grammar.proofs.Lawful.{lawful}
use Rattle.binary_grammar.proofs.Placing.{behind_byte, behind_part}
use Rattle.binary_grammar.proofs.Remaining.{behind_falls, behind_stops, behind_is, remains_on, remains_stop, remains_done}
use Rattle.binary_grammar.proofs.steps.steps_of.Goals as goal

pub returns-in_err-item-clause-gives : goal.returns-in_err-item-clause-gives
returns-in_err-item-clause-gives g c =
    let s = g.T.Step.known c.loop-from.state in
    let total = (meaning (steps g.T.Step.grow g.T.Step.which g.T.Step.next) (g.T.Step.known c.args.state.now)).read c.args.from.now.left in
    let more : eqb (length c.loop-from.from.left) 0 ≡ false = cc in
    let e = c.in_err-item.field-0.0 in
    let p = err_from_is_err_and c.from_residual-in_err-item.result c.from_residual-in_err-item.ensures.1 in
    rw (p.1, p.2) (remains_stop (λ t. (format.◌>>=◌ format.byte (λ b. meaning (g.T.Step.next b) t)).read) g.T.Step.grow s c.loop-from.from.left (map g.T.Step.value c.loop-from.items.items) total c.loop-from.invariant.remains e more
    (behind_stops (λ b. meaning (g.T.Step.next b) s) c.loop-from.from.left c.in_ok-kind.kind c.byte.new.self.left e c.in_ok-kind.ensures.gives c.in_err-item.ensures.gives))

pub loop-from-smaller : goal.loop-from-smaller
loop-from-smaller g c =
    let s = g.T.Step.known c.loop-from.state in
    behind_falls (meaning (g.T.Step.next c.in_ok-kind.kind) s) (lawful (g.T.Step.next c.in_ok-kind.kind) s) c.loop-from.from.left c.in_ok-kind.kind c.byte.new.self.left (g.T.Step.value c.in_ok-item.item) c.read_behind.new.from.left c.in_ok-kind.ensures.gives c.in_ok-item.ensures.gives

pub loop-from-preserved : goal.loop-from-preserved
loop-from-preserved g c =
    let s = g.T.Step.known c.loop-from.state in
    let n = c.in_ok-item.item in
    let x = g.T.Step.value n in
    let xs = map g.T.Step.value c.loop-from.items.items in
    let total = (meaning (steps g.T.Step.grow g.T.Step.which g.T.Step.next) (g.T.Step.known c.args.state.now)).read c.args.from.now.left in
    let more : eqb (length c.loop-from.from.left) 0 ≡ false = cc in
    let e : map g.T.Step.value c.push.new.self.items ≡ xs ++ x ∷ [] = rw c.in_ok-push.ensures.items (map_push _ c.loop-from.items.items n) in
    let mid : (total : List ℕ) → Within total c.args.from.now → Within total c.byte.new.self = λ total w. behind_byte total c.loop-from.from c.byte.new.self c.in_ok-kind.kind c.byte.ensures.end c.in_ok-kind.ensures.gives (c.loop-from.invariant.within total w) in
    record {
      remains = rw (e, c.in_ok-item.ensures.grows) (remains_on (λ t. (format.◌>>=◌ format.byte (λ b. meaning (g.T.Step.next b) t)).read) g.T.Step.grow s c.loop-from.from.left xs total c.loop-from.invariant.remains x c.read_behind.new.from.left more
          (behind_is (λ b. meaning (g.T.Step.next b) s) c.loop-from.from.left c.in_ok-kind.kind c.byte.new.self.left _ c.in_ok-kind.ensures.gives c.in_ok-item.ensures.gives)
          (behind_falls (meaning (g.T.Step.next c.in_ok-kind.kind) s) (lawful (g.T.Step.next c.in_ok-kind.kind) s) c.loop-from.from.left c.in_ok-kind.kind c.byte.new.self.left x c.read_behind.new.from.left c.in_ok-kind.ensures.gives c.in_ok-item.ensures.gives));
      within = λ total w. behind_part (g.T.Step.next c.in_ok-kind.kind) s total c.byte.new.self c.read_behind.new.from x c.read_behind.ensures.end c.in_ok-item.ensures.gives (mid total w);
      stands = λ total w. subst (All (g.T.Step.stands total)) (sym c.in_ok-push.ensures.items) (All-push (g.T.Step.stands total) c.loop-from.items.items n (c.loop-from.invariant.stands total w) (c.in_ok-item.ensures.stands total (mid total w)));
    }

pub returns-clause-gives : goal.returns-clause-gives
returns-clause-gives g c =
    let total = (meaning (steps g.T.Step.grow g.T.Step.which g.T.Step.next) (g.T.Step.known c.args.state.now)).read c.args.from.now.left in
    let none : eqb (length c.loop-from.from.left) 0 ≡ true = cc in
    remains_done (λ t. (format.◌>>=◌ format.byte (λ b. meaning (g.T.Step.next b) t)).read) g.T.Step.grow (g.T.Step.known c.loop-from.state) c.loop-from.from.left (map g.T.Step.value c.loop-from.items.items) total c.loop-from.invariant.remains none
