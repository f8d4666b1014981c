use Rattle.std.proofs.lemmas.Result.{on_ok_weaker}
use Rattle.wit_plans.proofs.moves.add_moved.Goals as goal

pub returns : goal.returns
returns c = on_ok_weaker c.add.result (λ items. (c.in_ok-moved.moved, c.in_ok-moved.ensures, items)) c.add.ensures
