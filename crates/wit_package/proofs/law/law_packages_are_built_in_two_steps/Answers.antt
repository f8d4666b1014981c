use Rattle.wit_package.proofs.Lawful.{built_in_two_steps}
use Rattle.wit_package.proofs.law.law_packages_are_built_in_two_steps.Goals as goal

pub returns : goal.returns
returns c = built_in_two_steps
