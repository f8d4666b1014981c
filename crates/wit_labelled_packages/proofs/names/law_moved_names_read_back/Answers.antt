use Rattle.wit_labelled_packages.proofs.names.law_moved_names_read_back.Goals as goal

pub returns : goal.returns
returns c = λ p n is. is
