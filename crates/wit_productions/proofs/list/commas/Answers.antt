use Rattle.std.proofs.Common.{◌≡◌, ◌∷◌, ◌++◌, [], map, length, arith, false, sym, refl, ap}
use Rattle.std.proofs.lemmas.Result.{err_from_is_err_and}
use Rattle.std.proofs.lemmas.List.{map_push}
use Rattle.wit_tokens.specs.Passed.wit_words-declared-token-Kind-TheVariants as kind
use Rattle.wit_productions.specs.Production.{sees}
use Rattle.wit_productions.proofs.Turns.{after_shorter}
use Rattle.wit_productions.proofs.Loops.{closes, fails, goes_on, last}
use Rattle.wit_productions.proofs.list.commas.Goals as goal

pub returns-in_err-parse : goal.returns-in_err-parse
returns-in_err-parse g c =
    let p = err_from_is_err_and c.from_residual.result c.from_residual.ensures.1 in
    let e : sees c.args.shut c.loop-alloc.tokens ≡ false = sym (c.loop-alloc-test.ensures.found) in
    let h = (rw (c.loop-alloc-test.ensures.after) at (c.in_err-parse.ensures)) in
    rw (p.1, p.2) (fails g.T.Part.production c.args.shut c.requires (map g.T.Part.tree c.loop-alloc.found.items) c.loop-alloc.tokens _ c.loop-alloc.invariant c.in_err-parse.field-0.0 e h)

pub returns-then-not-eat : goal.returns-then-not-eat
returns-then-not-eat g c =
    let e : sees c.args.shut c.loop-alloc.tokens ≡ false = sym (c.loop-alloc-test.ensures.found) in
    let h = (rw (c.loop-alloc-test.ensures.after) at (c.in_ok-parse.ensures)) in
    let k = (rw (c.if-not-eat.ensures.after) at (c.expect.ensures)) in
    let more : map g.T.Part.tree c.push.new.self.items ≡ map g.T.Part.tree c.loop-alloc.found.items ++ g.T.Part.tree c.in_ok-parse.field-0 ∷ [] = rw c.in_ok-push.ensures.items (map_push _ c.loop-alloc.found.items c.in_ok-parse.field-0) in
    rw (c.and.ensures) (last g.T.Part.production c.args.shut c.requires (map g.T.Part.tree c.loop-alloc.found.items) c.loop-alloc.tokens _ c.loop-alloc.invariant e
    (g.T.Part.tree c.in_ok-parse.field-0) c.parse.new.tokens h (λ v. map g.T.Part.tree v.items) c.push.new.self c.expect.result c.expect.new.self more (sym (c.if-not-eat.ensures.found)) k)

pub loop-alloc-smaller : goal.loop-alloc-smaller
loop-alloc-smaller g c =
    let a = c.requires c.eat.new.self (g.T.Part.tree c.in_ok-parse.field-0) c.parse.new.tokens c.in_ok-parse.ensures in
    let b = after_shorter kind.Comma c.parse.new.tokens (sym (c.if-not-eat.ensures.found)) in
    let e = ap length (c.loop-alloc-test.ensures.kept refl) in
    let f = ap length (c.if-not-eat.ensures.after) in
    omega (arith, a, b, e, f)

pub loop-alloc-preserved : goal.loop-alloc-preserved
loop-alloc-preserved g c =
    let e : sees c.args.shut c.loop-alloc.tokens ≡ false = sym (c.loop-alloc-test.ensures.found) in
    let h = (rw (c.loop-alloc-test.ensures.after) at (c.in_ok-parse.ensures)) in
    let more : map g.T.Part.tree c.push.new.self.items ≡ map g.T.Part.tree c.loop-alloc.found.items ++ g.T.Part.tree c.in_ok-parse.field-0 ∷ [] = rw c.in_ok-push.ensures.items (map_push _ c.loop-alloc.found.items c.in_ok-parse.field-0) in
    rw (more, c.if-not-eat.ensures.after) (goes_on g.T.Part.production c.args.shut c.requires (map g.T.Part.tree c.loop-alloc.found.items) c.loop-alloc.tokens _ c.loop-alloc.invariant e
    (g.T.Part.tree c.in_ok-parse.field-0) c.parse.new.tokens h (sym (c.if-not-eat.ensures.found)))

pub returns : goal.returns
returns g c =
    rw (c.loop-alloc-test.ensures.after) (closes g.T.Part.production c.args.shut c.requires (map g.T.Part.tree c.loop-alloc.found.items) c.loop-alloc.tokens _ c.loop-alloc.invariant (sym (c.loop-alloc-test.ensures.found)))
