use Rattle.wit_named_packages.proofs.Moved.{moved}
use Rattle.wit_named_packages.proofs.law.law_moved_packages_are_named.Goals as goal

pub returns : goal.returns
returns c = moved
