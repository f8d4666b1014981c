use Rattle.plain_meaning.proofs.Meaning.{stands_for_the_same}
use Rattle.plain_meaning.proofs.law.law_plain_definitions_stand_for_the_same.Goals as goal

pub returns : goal.returns
returns c = stands_for_the_same
