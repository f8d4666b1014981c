use Rattle.std.proofs.Common.{◌≡◌, map, length}
use Rattle.wit_items.specs.ItemView as view
use Rattle.wit_items.specs.ItemGrammar.{attribute}
use Rattle.wit_productions.specs.Production.{many, onto}
use Rattle.wit_productions.specs.Passed.wit_words-declared-token-Kind-TheVariants as kind
use Rattle.wit_items.proofs.parse.attributes.Given as goal

abbrev pub invariant-loop-found : goal.invariant-loop-found
invariant-loop-found l = (many kind.At attribute).read l.fn.tokens ≡ onto (map view.attribute l.found.items) ((many kind.At attribute).read l.tokens)

abbrev pub decreases-loop-found : goal.decreases-loop-found
decreases-loop-found l = length l.tokens
