use Rattle.wit_placed.proofs.Nameless.{moved_nameless_are_free}
use Rattle.wit_placed.proofs.places.law_moved_nameless_are_free.Goals as goal

pub returns : goal.returns
returns c = moved_nameless_are_free
