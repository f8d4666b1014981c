use Rattle.std.proofs.Common.{◌∙◌, sym, ap}
use Rattle.std.specs.Str.{trim}
use Rattle.wit_words.proofs.DocTexts.{block_text, other_text}
use Rattle.wit_words.proofs.docs.comment_text.Goals as goal

pub returns-in-Some-clause-value : goal.returns-in-Some-clause-value
returns-in-Some-clause-value c = c.trim.ensures.trim ∙ sym (block_text c.args.comment.now c.in-Some.inside.now c.in-Some.ensures)

pub returns-in-Some-clause-block : goal.returns-in-Some-clause-block
returns-in-Some-clause-block c inside e = returns-in-Some-clause-value c ∙ block_text c.args.comment.now inside e

pub returns-in-None-clause-value : goal.returns-in-None-clause-value
returns-in-None-clause-value c = c.trim-in-None.ensures.trim ∙ ap trim c.without_slashes.ensures ∙ sym (other_text c.args.comment.now c.in-None.ensures)
