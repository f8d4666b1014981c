use Rattle.wit_package.proofs.Lawful.{may_be_built}
use Rattle.wit_package.proofs.law.law_kept_packages_may_be_built.Goals as goal

pub returns : goal.returns
returns c = may_be_built
