use Rattle.wit_push_causes.proofs.Together.{say_the_same}
use Rattle.wit_push_causes.proofs.law.law_pushed_graphs_say_the_same.Goals as goal

pub returns : goal.returns
returns c = say_the_same
