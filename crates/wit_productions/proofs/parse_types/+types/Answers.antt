use Rattle.std.proofs.Common.{◌≡◌, ◌∷◌, ◌++◌, [], map, length, arith, false, sym, refl, ap}
use Rattle.std.proofs.lemmas.Result.{err_from_is_err_and}
use Rattle.std.proofs.lemmas.List.{map_push}
use Rattle.wit_tokens.specs.Passed.wit_words-declared-token-Kind-TheVariants as kind
use Rattle.wit_productions.specs.Production.{sees}
use Rattle.wit_productions.specs.TypeGrammar.{type_in}
use Rattle.wit_productions.specs.TypeView.{type_tree}
use Rattle.wit_productions.proofs.Turns.{after_shorter}
use Rattle.wit_productions.proofs.TypeLaws.{type_takes}
use Rattle.wit_productions.proofs.Loops.{closes, fails, goes_on, last}
use Rattle.wit_productions.proofs.parse_types.+types.Goals as goal

pub types-returns-in_err-type_of : goal.types-returns-in_err-type_of
types-returns-in_err-type_of t c =
    let p = err_from_is_err_and c.from_residual.result c.from_residual.ensures.1 in
    let item = type_in c.args.depth in
    let e : sees kind.GreaterThan c.loop-alloc.tokens ≡ false = sym (c.loop-alloc-test.ensures.found) in
    let h = (rw (c.loop-alloc-test.ensures.after) at (c.in_err-type_of.ensures)) in
    rw (p.1, p.2) (fails item kind.GreaterThan (type_takes c.args.depth) (map type_tree c.loop-alloc.found.items) c.loop-alloc.tokens _ c.loop-alloc.invariant c.in_err-type_of.field-0.0 e h)

pub types-returns-then-not-eat : goal.types-returns-then-not-eat
types-returns-then-not-eat t c =
    let e : sees kind.GreaterThan c.loop-alloc.tokens ≡ false = sym (c.loop-alloc-test.ensures.found) in
    let h = (rw (c.loop-alloc-test.ensures.after) at (c.in_ok-type_of.ensures)) in
    let k = (rw (c.if-not-eat.ensures.after) at (c.expect.ensures)) in
    let more : map type_tree c.push.new.self.items ≡ map type_tree c.loop-alloc.found.items ++ type_tree c.in_ok-type_of.field-0 ∷ [] = rw c.in_ok-push.ensures.items (map_push _ c.loop-alloc.found.items c.in_ok-type_of.field-0) in
    rw (c.and.ensures) (last (type_in c.args.depth) kind.GreaterThan (type_takes c.args.depth) (map type_tree c.loop-alloc.found.items) c.loop-alloc.tokens _ c.loop-alloc.invariant e
    (type_tree c.in_ok-type_of.field-0) c.type_of.new.tokens h (λ v. map type_tree v.items) c.push.new.self c.expect.result c.expect.new.self more (sym (c.if-not-eat.ensures.found)) k)

pub types-loop-alloc-smaller : goal.types-loop-alloc-smaller
types-loop-alloc-smaller t c =
    let a = type_takes c.args.depth c.eat.new.self (type_tree c.in_ok-type_of.field-0) c.type_of.new.tokens c.in_ok-type_of.ensures in
    let b = after_shorter kind.Comma c.type_of.new.tokens (sym (c.if-not-eat.ensures.found)) in
    let e = ap length (c.loop-alloc-test.ensures.kept refl) in
    let f = ap length (c.if-not-eat.ensures.after) in
    omega (arith, a, b, e, f)

pub types-loop-alloc-preserved : goal.types-loop-alloc-preserved
types-loop-alloc-preserved t c =
    let e : sees kind.GreaterThan c.loop-alloc.tokens ≡ false = sym (c.loop-alloc-test.ensures.found) in
    let h = (rw (c.loop-alloc-test.ensures.after) at (c.in_ok-type_of.ensures)) in
    let more : map type_tree c.push.new.self.items ≡ map type_tree c.loop-alloc.found.items ++ type_tree c.in_ok-type_of.field-0 ∷ [] = rw c.in_ok-push.ensures.items (map_push _ c.loop-alloc.found.items c.in_ok-type_of.field-0) in
    rw (more, c.if-not-eat.ensures.after) (goes_on (type_in c.args.depth) kind.GreaterThan (type_takes c.args.depth) (map type_tree c.loop-alloc.found.items) c.loop-alloc.tokens _ c.loop-alloc.invariant e
    (type_tree c.in_ok-type_of.field-0) c.type_of.new.tokens h (sym (c.if-not-eat.ensures.found)))

pub types-returns : goal.types-returns
types-returns t c =
    rw (c.loop-alloc-test.ensures.after) (closes (type_in c.args.depth) kind.GreaterThan (type_takes c.args.depth) (map type_tree c.loop-alloc.found.items) c.loop-alloc.tokens _ c.loop-alloc.invariant (sym (c.loop-alloc-test.ensures.found)))
