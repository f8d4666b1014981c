use Rattle.wit_syntax.specs.FileGrammar.{file}
use Rattle.wit_productions.specs.NameGrammar.{whole_use_path}
use Rattle.wit_productions.specs.TypeGrammar.{whole_type}
use Rattle.wit_productions.proofs.Causes.{memory_alone}
use Rattle.wit_syntax.proofs.law.law_a_fault_denies_a_tree.Goals as goal

pub returns-clause-tree : goal.returns-clause-tree
returns-clause-tree c = memory_alone file

pub returns-clause-path : goal.returns-clause-path
returns-clause-path c = memory_alone whole_use_path 0

pub returns-clause-ty : goal.returns-clause-ty
returns-clause-ty c = memory_alone whole_type 0
