use Rattle.wit_labelled_packages.proofs.Texts.{parsed_apart}
use Rattle.wit_labelled_packages.proofs.law.law_parsed_packages_have_names_apart.Goals as goal

pub returns : goal.returns
returns c = parsed_apart c.law_names_within_are_apart.ensures
