use Rattle.wit_package.proofs.Lawful.{are_resolved}
use Rattle.wit_package.proofs.law.law_built_packages_are_resolved.Goals as goal

pub returns : goal.returns
returns c = are_resolved
