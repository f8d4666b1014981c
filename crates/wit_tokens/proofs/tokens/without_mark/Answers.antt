use Rattle.std.proofs.Common.{arith, rules}
use Rattle.wit_tokens.proofs.Marks.{mark_some, mark_length, mark_none}
use Rattle.wit_tokens.proofs.tokens.without_mark.Goals as goal

pub overflow_add-result : goal.overflow_add-result
overflow_add-result c = omega (arith, mark_length c.args.text.now c.in-Some.rest c.in-Some.ensures.cases)

pub returns-in-Some : goal.returns-in-Some
returns-in-Some c = record {
  value = mark_some c.args.at c.args.text.now c.in-Some.rest c.in-Some.ensures.cases;
  within = omega (arith, mark_length c.args.text.now c.in-Some.rest c.in-Some.ensures.cases);
  behind = omega arith;
}

pub returns-in-None : goal.returns-in-None
returns-in-None c = record { value = mark_none c.args.at c.args.text.now c.in-None.ensures.cases; within = search rules; behind = search rules }
