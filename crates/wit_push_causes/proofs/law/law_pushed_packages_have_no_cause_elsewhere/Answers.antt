use Rattle.wit_push_causes.proofs.Together.{none_elsewhere}
use Rattle.wit_push_causes.proofs.law.law_pushed_packages_have_no_cause_elsewhere.Goals as goal

pub returns : goal.returns
returns c = none_elsewhere
