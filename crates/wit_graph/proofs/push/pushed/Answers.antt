use Rattle.wit_graph.specs.Push.{HaveGrown}
use Rattle.wit_graph.proofs.Finishing.{on_err_at, taken_back}
use Rattle.wit_graph.proofs.push.pushed.Goals as goal

pub returns-in-Err-clause-err : goal.returns-in-Err-clause-err
returns-in-Err-clause-err c =
    taken_back c.args.tables c.added-tables.result.tables c.cut.new.tables c.sizes-before.result c.requires.whole
    (on_err_at c.added-tables.result.done c.in-Err.fault (HaveGrown c.args.tables c.added-tables.result.tables) c.in-Err.is c.added-tables.ensures.err) c.sizes-before.ensures c.cut.ensures
