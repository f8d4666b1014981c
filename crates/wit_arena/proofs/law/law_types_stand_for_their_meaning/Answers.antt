use Rattle.wit_arena.proofs.Meanings.{types_stand_for_their_meaning}
use Rattle.wit_arena.proofs.law.law_types_stand_for_their_meaning.Goals as goal

pub returns : goal.returns
returns c = types_stand_for_their_meaning
