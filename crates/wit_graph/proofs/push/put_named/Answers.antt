use Rattle.std.proofs.lemmas.Result.{on_ok_weaker}
use Rattle.wit_graph.proofs.push.put_named.Goals as goal

pub returns-clause-ok : goal.returns-clause-ok
returns-clause-ok c = on_ok_weaker c.put_package.result (λ e. (c.in_ok-names.names, c.in_ok-names.was, (c.package_of.result, c.package_of.ensures, e))) c.put_package.ensures.ok
