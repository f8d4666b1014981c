use Rattle.wit_worlds.proofs.Entries.{made_worlds_stand}
use Rattle.wit_worlds.proofs.law.law_made_worlds_stand_for_their_texts.Goals as goal

pub returns : goal.returns
returns c = made_worlds_stand
