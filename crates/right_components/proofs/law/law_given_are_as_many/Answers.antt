use Rattle.right_components.proofs.Given.{given_are_as_many}
use Rattle.right_components.proofs.law.law_given_are_as_many.Goals as goal

pub returns : goal.returns
returns c = given_are_as_many
