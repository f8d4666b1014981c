use Rattle.binary_grammar.proofs.Placing.{behind_number}
use Rattle.binary_grammar.proofs.steps.growing_of.Goals as goal

pub returns-clause-stands : goal.returns-clause-stands
returns-clause-stands g c = λ total w. c.several_of.ensures.stands total (behind_number total c.args.from.now c.number.new.self c.in_ok-count.count c.number.ensures.end c.in_ok-count.ensures.gives w)
