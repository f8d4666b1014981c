use Rattle.wit_worlds.proofs.Entries.{lists_are}
use Rattle.wit_worlds.proofs.law.law_listed_worlds_stand_for_their_texts.Goals as goal

pub returns : goal.returns
returns c = λ d ps w a table fs ids imports exports includes leads functions labels made. lists_are d ps leads w a table fs ids functions labels imports exports includes made
