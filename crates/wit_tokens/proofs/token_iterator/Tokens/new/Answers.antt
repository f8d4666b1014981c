use Rattle.wit_tokens.proofs.ItemLaws.{new_items, new_tokens, new_few}
use Rattle.wit_tokens.proofs.token_iterator.Tokens.new.Goals as goal

pub returns-clause-items : goal.returns-clause-items
returns-clause-items c = new_items c.args.offset c.args.text.now c.without_mark-at.result.1 c.without_mark-at.result.0.now c.without_mark-at.ensures.value

pub returns-clause-tokens : goal.returns-clause-tokens
returns-clause-tokens c = new_tokens c.args.offset c.args.text.now c.without_mark-at.result.1 c.without_mark-at.result.0.now c.without_mark-at.ensures.value

pub returns-clause-few : goal.returns-clause-few
returns-clause-few c = new_few c.args.offset c.args.text.now c.without_mark-at.result.1 c.without_mark-at.result.0.now c.without_mark-at.ensures.value c.without_mark-at.ensures.within c.without_mark-at.ensures.behind
