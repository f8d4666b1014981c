use Rattle.std.proofs.Common.{refl}
use Rattle.wit_finding.proofs.asks.span_of.Goals as goal

pub returns-in-World : goal.returns-in-World
returns-in-World c = rw c.in-World.is (c.get-in-World.result.now, c.get-in-World.ensures, refl)
