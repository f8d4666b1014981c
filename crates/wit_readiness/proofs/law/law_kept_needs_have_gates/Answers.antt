-- What is asked of other packages has the gates of what asks.
use Rattle.wit_readiness.proofs.Needing.{needs_have_gates}
use Rattle.wit_readiness.proofs.law.law_kept_needs_have_gates.Goals as goal

pub returns : goal.returns
returns c = needs_have_gates
