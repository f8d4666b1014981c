use Rattle.wit_words.proofs.Identifiers.{decides}
use Rattle.wit_words.proofs.identifier.is_identifier.Goals as goal

pub returns-clause-decides : goal.returns-clause-decides
returns-clause-decides c = decides c.args.text.now c.goes_on_to_the_end.result c.goes_on_to_the_end.ensures
