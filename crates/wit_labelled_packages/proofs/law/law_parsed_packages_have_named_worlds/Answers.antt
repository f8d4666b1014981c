use Rattle.wit_labelled_packages.proofs.Texts.{parsed_named}
use Rattle.wit_labelled_packages.proofs.law.law_parsed_packages_have_named_worlds.Goals as goal

pub returns : goal.returns
returns c = parsed_named c.law_parsed_worlds_are_named.ensures c.law_exported_functions_are_under_names.ensures
