use Rattle.wit_package_types.proofs.Functional.{are_functional}
use Rattle.wit_package_types.proofs.law.law_distinct_names_are_of_one_type.Goals as goal

pub returns : goal.returns
returns c = are_functional
