use Rattle.wit_syntax.specs.FileGrammar.{file}
use Rattle.wit_productions.specs.NameGrammar.{whole_use_path}
use Rattle.wit_productions.specs.TypeGrammar.{whole_type}
use Rattle.wit_syntax.proofs.FileLaws.{file_law}
use Rattle.wit_productions.proofs.NameLaws.{whole_use_path_law}
use Rattle.wit_productions.proofs.Texts.{one_tree}
use Rattle.wit_productions.proofs.TypeLaws.{whole_type_law}
use Rattle.wit_syntax.proofs.law.law_one_reading.Goals as goal

pub returns-clause-tree : goal.returns-clause-tree
returns-clause-tree c = one_tree file file_law

pub returns-clause-path : goal.returns-clause-path
returns-clause-path c = one_tree whole_use_path whole_use_path_law 0

pub returns-clause-ty : goal.returns-clause-ty
returns-clause-ty c = one_tree whole_type whole_type_law 0
