use Rattle.std.proofs.Common.{rules, arith}
use Rattle.wit_tokens.specs.Items.{items_of}
use Rattle.wit_tokens.specs.Lex.{read_bare}
use Rattle.wit_tokens.proofs.ItemLaws.{items_break, items_pass, items_token, items_end}
use Rattle.wit_tokens.proofs.token_iterator.next_item.Goals as goal

pub returns-in-Err-clause-value : goal.returns-in-Err-clause-value
returns-in-Err-clause-value c = items_break c.loop-rest.at c.loop-rest.rest.now c.in-Err.fault (items_of (read_bare c.args.start c.args.text.now)) (search rules) c.in-Err.ensures.value c.loop-rest.invariant.items

pub returns-in-Token-clause-value : goal.returns-in-Token-clause-value
returns-in-Token-clause-value c =
    items_token c.loop-rest.at c.loop-rest.rest.now c.in-Ok.front.0 c.in-Token.token c.in-Ok.front.1 c.in-Ok.front.2.now (items_of (read_bare c.args.start c.args.text.now)) c.in-Ok.ensures.moves c.in-Ok.ensures.value c.in-Token.is c.loop-rest.invariant.items

pub loop-rest-preserved : goal.loop-rest-preserved
loop-rest-preserved c = record {
  text = search rules;
  fits = omega (arith, c.in-Ok.ensures.within);
  items = items_pass c.loop-rest.at c.loop-rest.rest.now c.in-Ok.front.0 c.in-Ok.front.1 c.in-Ok.front.2.now (items_of (read_bare c.args.start c.args.text.now)) c.in-Ok.ensures.moves c.in-Ok.ensures.value c.in-Nothing.is c.loop-rest.invariant.items;
}

pub returns-clause-value : goal.returns-clause-value
returns-clause-value c = items_end c.loop-rest.at c.loop-rest.rest.now (items_of (read_bare c.args.start c.args.text.now)) (search rules) c.loop-rest.invariant.items
