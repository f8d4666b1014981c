use Rattle.std.proofs.Common.{rules, ◌≡◌, ◌++◌, ◌∷◌, [], ◌∙◌, map}
use Rattle.std.specs.Prelude.{◌==◌}
use Rattle.std.proofs.lemmas.Result.{err_from_is_err_and}
use Rattle.std.proofs.lemmas.List.{map_push}
use Rattle.binary_grammar.specs.Syntax.{meaning, up_to}
use Rattle.binary_grammar.specs.Several.{unless}
use Rattle.binary_grammar.proofs.Lawful.{lawful}
use Rattle.binary_grammar.proofs.Remaining.{behind_falls, byte_stops, awaits_on, awaits_stop, awaits_done, sign_or, sign_is, value_is, value_stops}
use Rattle.binary_grammar.proofs.steps.up_to_of.Goals as goal

pub returns-in_err-kind-clause-gives : goal.returns-in_err-kind-clause-gives
returns-in_err-kind-clause-gives g c =
    let known = g.T.Instruction.known c.args.there in
    let last = c.args.last in
    let total = (meaning (up_to c.args.last g.T.Instruction.which g.T.Instruction.next) known).read c.args.from.now.left in
    let e = c.in_err-kind.field-0.0 in
    let p = err_from_is_err_and c.from_residual.result c.from_residual.ensures.1 in
    rw (p.1, p.2) (awaits_stop (sign_or last (λ b. meaning (g.T.Instruction.next b) known)).read c.loop-items.from.left (map g.T.Instruction.value c.loop-items.items.items) total c.loop-items.invariant.awaits e
    (byte_stops (λ b. unless (b == last) (meaning (g.T.Instruction.next b) known)) c.loop-items.from.left e c.in_err-kind.ensures.gives))

pub returns-then-kind-last-clause-gives : goal.returns-then-kind-last-clause-gives
returns-then-kind-last-clause-gives g c =
    let known = g.T.Instruction.known c.args.there in
    let total = (meaning (up_to c.args.last g.T.Instruction.which g.T.Instruction.next) known).read c.args.from.now.left in
    awaits_done (sign_or c.args.last (λ b. meaning (g.T.Instruction.next b) known)).read c.loop-items.from.left (map g.T.Instruction.value c.loop-items.items.items) total c.loop-items.invariant.awaits c.byte.new.self.left
    (sign_is c.args.last (λ b. meaning (g.T.Instruction.next b) known) c.loop-items.from.left c.in_ok-kind.kind c.byte.new.self.left c.in_ok-kind.ensures.gives (search rules))

pub returns-in_err-item-clause-gives : goal.returns-in_err-item-clause-gives
returns-in_err-item-clause-gives g c =
    let known = g.T.Instruction.known c.args.there in
    let total = (meaning (up_to c.args.last g.T.Instruction.which g.T.Instruction.next) known).read c.args.from.now.left in
    let e = c.in_err-item.field-0.0 in
    let p = err_from_is_err_and c.from_residual-in_err-item.result c.from_residual-in_err-item.ensures.1 in
    rw (p.1, p.2) (awaits_stop (sign_or c.args.last (λ b. meaning (g.T.Instruction.next b) known)).read c.loop-items.from.left (map g.T.Instruction.value c.loop-items.items.items) total c.loop-items.invariant.awaits e
    (value_stops c.args.last (λ b. meaning (g.T.Instruction.next b) known) c.loop-items.from.left c.in_ok-kind.kind c.byte.new.self.left c.in_ok-kind.ensures.gives e (search rules) c.in_err-item.ensures.gives))

pub loop-items-smaller : goal.loop-items-smaller
loop-items-smaller g c =
    let known = g.T.Instruction.known c.args.there in
    behind_falls (meaning (g.T.Instruction.next c.in_ok-kind.kind) known) (lawful (g.T.Instruction.next c.in_ok-kind.kind) known) c.loop-items.from.left c.in_ok-kind.kind c.byte.new.self.left (g.T.Instruction.value c.in_ok-item.item) c.read_behind.new.from.left c.in_ok-kind.ensures.gives c.in_ok-item.ensures.gives

pub loop-items-preserved : goal.loop-items-preserved
loop-items-preserved g c =
    let known = g.T.Instruction.known c.args.there in
    let total = (meaning (up_to c.args.last g.T.Instruction.which g.T.Instruction.next) known).read c.args.from.now.left in
    let n = c.in_ok-item.item in
    let x = g.T.Instruction.value c.in_ok-item.item in
    let e : map g.T.Instruction.value c.push.new.self.items ≡ map g.T.Instruction.value c.loop-items.items.items ++ g.T.Instruction.value n ∷ [] = rw c.in_ok-push.ensures.items (map_push _ c.loop-items.items.items n) in
    record {
      awaits = rw e (awaits_on (sign_or c.args.last (λ b. meaning (g.T.Instruction.next b) known)).read c.loop-items.from.left (map g.T.Instruction.value c.loop-items.items.items) total c.loop-items.invariant.awaits x c.read_behind.new.from.left
          (value_is c.args.last (λ b. meaning (g.T.Instruction.next b) known) c.loop-items.from.left c.in_ok-kind.kind c.byte.new.self.left c.in_ok-kind.ensures.gives x c.read_behind.new.from.left (search rules) c.in_ok-item.ensures.gives)
          (behind_falls (meaning (g.T.Instruction.next c.in_ok-kind.kind) known) (lawful (g.T.Instruction.next c.in_ok-kind.kind) known) c.loop-items.from.left c.in_ok-kind.kind c.byte.new.self.left x c.read_behind.new.from.left c.in_ok-kind.ensures.gives c.in_ok-item.ensures.gives));
      end = c.read_behind.ensures.end ∙ (c.byte.ensures.end ∙ c.loop-items.invariant.end);
    }
