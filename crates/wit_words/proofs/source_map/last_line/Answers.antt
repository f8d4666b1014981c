use Rattle.std.proofs.Common.{arith}
use Rattle.wit_words.proofs.Sources.{last_of_all, last_behind}
use Rattle.wit_words.proofs.source_map.last_line.Goals.{then-loop-at-test+else-front-at-ne10, else-loop-at-test}
use Rattle.wit_words.proofs.source_map.last_line.Goals as goal

pub returns : goal.returns
returns c = elim c.loop-at-test.branch [
  | then-loop-at-test+else-front-at-ne10 w ↦ last_behind c.args.front.now c.loop-at.at c.loop-at.invariant.1 c.loop-at.invariant.0 _ w.loop-at-test.true w.if-front-at-ne10.false
  | else-loop-at-test w ↦ last_of_all c.args.front.now c.loop-at.at c.loop-at.invariant.1 c.loop-at.invariant.0 (omega (arith, w.loop-at-test.false))
]
