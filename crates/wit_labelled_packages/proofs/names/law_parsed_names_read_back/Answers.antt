use Rattle.wit_labelled_packages.proofs.Parsed.{parsed_read_back}
use Rattle.wit_labelled_packages.proofs.names.law_parsed_names_read_back.Goals as goal

pub returns : goal.returns
returns c = parsed_read_back c.law_parsed_packages_have_plain_names.ensures
