use Rattle.std.proofs.Common.{arith}
use Rattle.binary_grammar.proofs.Inside.{can_move}
use Rattle.binary_grammar.proofs.content.bounded_of.Goals as goal

pub moved-requires : goal.moved-requires
moved-requires g c = can_move g.T.Content.content (g.T.Content.known c.args.there) c.in_ok-inside.inside.left c.left.result c.in-Err.e c.in-Err.ensures (omega (arith, c.in_ok-inside.ensures.inner.1))
