use Rattle.wit_types.specs.Shorthand.{itself, alias}
use Rattle.wit_types.proofs.shorthand.meaning_of.Goals as goal

pub loop-target-preserved : goal.loop-target-preserved
loop-target-preserved c = λ k h. c.loop-target.invariant k (alias c.loop-target.at c.in-Some.target k c.in-Some.ensures h)

pub returns : goal.returns
returns c = c.loop-target.invariant c.loop-target.at (itself c.loop-target.at c.in_default.ensures)
