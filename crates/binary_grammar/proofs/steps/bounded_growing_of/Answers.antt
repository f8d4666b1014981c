use Rattle.std.proofs.Common.{arith}
use Rattle.binary_grammar.specs.Syntax.{exactly, growing}
use Rattle.binary_grammar.proofs.Inside.{can_move}
use Rattle.binary_grammar.proofs.Placing.{inside_within}
use Rattle.binary_grammar.proofs.steps.bounded_growing_of.Goals as goal

pub moved-requires : goal.moved-requires
moved-requires g c = can_move (exactly (growing g.T.Step.grow (g.T.Step.next c.args.kind))) (g.T.Step.known c.args.state.now) c.in_ok-inside.inside.left c.left.result c.in-Err.e c.in-Err.ensures.gives (omega (arith, c.in_ok-inside.ensures.inner.1))

pub returns-in-Ok-clause-stands : goal.returns-in-Ok-clause-stands
returns-in-Ok-clause-stands g c = λ total w. c.in-Ok.ensures.stands total (inside_within total c.args.from.now c.in_ok-inside.inside c.inside.new.self c.inside.ensures.end c.in_ok-inside.ensures.gives c.in_ok-inside.ensures.inner.0 w)
