use Rattle.wit_reach.proofs.Holding.{listed_are_all}
use Rattle.wit_graph.proofs.law.law_types_use_earlier.Goals as goal

pub returns : goal.returns
returns c = λ t whole. listed_are_all t.types t.interfaces.all whole.sound.owners whole.listed whole.holds.types_use
