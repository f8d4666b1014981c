use Rattle.wit_types.proofs.Keys.{keys_are_lawful}
use Rattle.wit_types.proofs.law.law_world_keys_are_lawful.Goals as goal

pub returns : goal.returns
returns c = keys_are_lawful
