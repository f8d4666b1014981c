use Rattle.wit_arena.proofs.Arenas.{unnamed_types_are_one}
use Rattle.wit_arena.proofs.law.law_unnamed_types_are_one.Goals as goal

pub returns : goal.returns
returns c = unnamed_types_are_one
