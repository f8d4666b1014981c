use Rattle.type_meaning.specs.Words.{same_label, same_resource}
use Rattle.type_meaning.proofs.Labels.{label_decides, resource_decides}
use Rattle.type_meaning.proofs.TreeLaws.{tree_decides}
use Rattle.type_meaning.proofs.law.law_equal_trees_are_told.Goals as goal

pub returns-clause-bytes : goal.returns-clause-bytes
returns-clause-bytes c = tree_decides same_label same_resource label_decides resource_decides

pub returns-clause-names : goal.returns-clause-names
returns-clause-names c = tree_decides same_label same_label label_decides label_decides
