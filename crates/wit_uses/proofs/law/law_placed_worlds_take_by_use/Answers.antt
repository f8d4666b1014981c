use Rattle.wit_uses.proofs.Worlds.{placed_take}
use Rattle.wit_uses.proofs.law.law_placed_worlds_take_by_use.Goals as goal

pub returns : goal.returns
returns c = placed_take c.law_worlds_take_places_alone.ensures
