use Rattle.text_causes.proofs.Pushing.{package_pushed}
use Rattle.text_causes.proofs.law.law_pushed_packages_have_no_cause.Goals as goal

pub returns : goal.returns
returns c = package_pushed
