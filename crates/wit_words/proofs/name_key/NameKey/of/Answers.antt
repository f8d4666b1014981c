use Rattle.std.proofs.Common.{◌∙◌, ap}
use Rattle.wit_words.specs.NameKey.{halved, name_key}
use Rattle.wit_words.proofs.name_key.NameKey.of.Goals as goal

pub returns : goal.returns
unfolding name_key
returns c = c.halved.ensures ∙ ap halved c.unmarked.ensures
