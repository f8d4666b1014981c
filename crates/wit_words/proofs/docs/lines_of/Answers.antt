use Rattle.std.proofs.Common.{◌∙◌, sym}
use Rattle.std.proofs.lemmas.Iterator.Consumers.{map_from_collect}
use Rattle.std.proofs.lemmas.Iterator.Splits.{YieldsList-from_lines}
use Rattle.wit_words.proofs.docs.lines_of.Goals as goal

pub returns : goal.returns
returns c = rw (sym c.is_empty.ensures ∙ c.if-is_empty.false) (map_from_collect c.collect.result c.collect.ensures.ran (YieldsList-from_lines c.args.text.now c.lines.ensures.rest))
