use Rattle.wit_push_causes.proofs.Together.{none_here}
use Rattle.wit_push_causes.proofs.law.law_pushed_packages_have_no_cause.Goals as goal

pub returns : goal.returns
returns c = none_here
