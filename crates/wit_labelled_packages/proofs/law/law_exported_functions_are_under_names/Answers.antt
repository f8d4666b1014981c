use Rattle.wit_labelled_packages.proofs.Texts.{exported_under}
use Rattle.wit_labelled_packages.proofs.law.law_exported_functions_are_under_names.Goals as goal

pub returns : goal.returns
returns c = exported_under
