use Rattle.std.proofs.Common.{◌≡◌, map, length, ◌+◌, ◌*◌}
use Rattle.wit_tokens.specs.Passed.wit_words-declared-token-Kind-TheVariants as kind
use Rattle.wit_productions.specs.Production.{commas, onto}
use Rattle.wit_productions.specs.TypeGrammar.{type_in}
use Rattle.wit_productions.specs.TypeView.{type_tree}
use Rattle.wit_productions.proofs.parse_types.+types.Given as goal

abbrev pub decreases-part : goal.decreases-part
decreases-part l = 8 * l.depth + 1

abbrev pub decreases-last_part : goal.decreases-last_part
decreases-last_part l = 8 * l.depth + 2

abbrev pub decreases-list : goal.decreases-list
decreases-list l = 8 * l.depth + 2

abbrev pub decreases-option : goal.decreases-option
decreases-option l = 8 * l.depth + 3

abbrev pub decreases-tuple : goal.decreases-tuple
decreases-tuple l = 8 * l.depth + 2

abbrev pub decreases-types : goal.decreases-types
decreases-types l = 8 * l.depth + 1

abbrev pub decreases-second_part : goal.decreases-second_part
decreases-second_part l = 8 * l.depth + 3

abbrev pub decreases-result_parts : goal.decreases-result_parts
decreases-result_parts l = 8 * l.depth + 4

abbrev pub decreases-result : goal.decreases-result
decreases-result l = 8 * l.depth + 5

abbrev pub decreases-payload : goal.decreases-payload
decreases-payload l = 8 * l.depth + 3

abbrev pub decreases-keyword_type : goal.decreases-keyword_type
decreases-keyword_type l = 8 * l.depth + 6

abbrev pub decreases-kind_of : goal.decreases-kind_of
decreases-kind_of l = 8 * l.depth + 7

abbrev pub decreases-type_of : goal.decreases-type_of
decreases-type_of l = 8 * l.depth

abbrev pub invariant-types-loop-alloc : goal.invariant-types-loop-alloc
invariant-types-loop-alloc l = (commas (type_in l.depth) kind.GreaterThan).read l.fn.tokens ≡ onto (map type_tree l.found.items) ((commas (type_in l.depth) kind.GreaterThan).read l.tokens)

abbrev pub decreases-types-loop-alloc : goal.decreases-types-loop-alloc
decreases-types-loop-alloc l = length l.tokens
