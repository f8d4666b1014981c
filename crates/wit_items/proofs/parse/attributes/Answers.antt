use Rattle.std.proofs.Common.{◌≡◌, ◌∷◌, ◌++◌, [], map, length, arith, true, false, sym, refl, ap}
use Rattle.std.proofs.lemmas.Result.{err_from_is_err_and}
use Rattle.std.proofs.lemmas.List.{map_push}
use Rattle.wit_items.specs.ItemView as view
use Rattle.wit_items.specs.ItemGrammar.{attribute}
use Rattle.wit_productions.specs.Production.{sees}
use Rattle.wit_productions.specs.Passed.wit_words-declared-token-Kind-TheVariants as kind
use Rattle.wit_items.proofs.ItemLaws.{attribute_takes}
use Rattle.wit_productions.proofs.Loops.{many_ends, many_fails, many_goes_on}
use Rattle.wit_productions.proofs.Turns.{after_shorter}
use Rattle.wit_items.proofs.parse.attributes.Goals as goal

pub returns-in_err-attribute : goal.returns-in_err-attribute
returns-in_err-attribute c =
    let p = err_from_is_err_and c.from_residual.result c.from_residual.ensures.1 in
    let e : sees kind.At c.loop-found.tokens ≡ true = sym (c.loop-found-test.ensures.found) in
    let h = (rw (c.loop-found-test.ensures.after) at (c.in_err-attribute.ensures)) in
    rw (p.1, p.2) (many_fails kind.At attribute attribute_takes (map view.attribute c.loop-found.found.items) c.loop-found.tokens _ c.loop-found.invariant c.in_err-attribute.field-0.0 e h)

pub loop-found-smaller : goal.loop-found-smaller
loop-found-smaller c =
    let a = attribute_takes c.eat.new.self (view.attribute c.in_ok-attribute.field-0) c.attribute.new.tokens c.in_ok-attribute.ensures in
    let b = after_shorter kind.At c.loop-found.tokens (sym (c.loop-found-test.ensures.found)) in
    let e = ap length (c.loop-found-test.ensures.after) in
    omega (arith, a, b, e)

pub loop-found-preserved : goal.loop-found-preserved
loop-found-preserved c =
    let e : sees kind.At c.loop-found.tokens ≡ true = sym (c.loop-found-test.ensures.found) in
    let h = (rw (c.loop-found-test.ensures.after) at (c.in_ok-attribute.ensures)) in
    let more : map view.attribute c.push.new.self.items ≡ map view.attribute c.loop-found.found.items ++ view.attribute c.in_ok-attribute.field-0 ∷ [] = rw c.in_ok-push.ensures.items (map_push _ c.loop-found.found.items c.in_ok-attribute.field-0) in
    rw more (many_goes_on kind.At attribute attribute_takes (map view.attribute c.loop-found.found.items) c.loop-found.tokens _ c.loop-found.invariant e (view.attribute c.in_ok-attribute.field-0) c.attribute.new.tokens h)

pub returns : goal.returns
returns c =
    let e : sees kind.At c.loop-found.tokens ≡ false = sym (c.loop-found-test.ensures.found) in
    rw (c.loop-found-test.ensures.kept refl) (many_ends kind.At attribute attribute_takes (map view.attribute c.loop-found.found.items) c.loop-found.tokens _ c.loop-found.invariant e)
