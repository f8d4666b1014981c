use Rattle.wit_labelled_packages.proofs.Texts.{moved_named}
use Rattle.wit_labelled_packages.proofs.law.law_moved_packages_have_named_worlds.Goals as goal

pub returns : goal.returns
returns c = moved_named
