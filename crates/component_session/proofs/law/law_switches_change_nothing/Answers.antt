use Rattle.component_session.proofs.Switches.{answered_alike}
use Rattle.component_session.proofs.law.law_switches_change_nothing.Goals as goal

pub returns : goal.returns
returns c = answered_alike
