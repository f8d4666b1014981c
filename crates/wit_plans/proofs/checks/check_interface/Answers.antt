use Rattle.std.proofs.Common.{sym, subst}
use Rattle.std.proofs.lemmas.Result.{on_ok_weaker}
use Rattle.wit_finding.specs.Passed.wit_moves-Interfaces.{FunctionsBreak}
use Rattle.wit_plans.specs.Checks.{Standing}
use Rattle.wit_plans.proofs.checks.check_interface.Goals as goal

pub returns-clause-ok : goal.returns-clause-ok
returns-clause-ok c =
    on_ok_weaker c.check_functions.result (λ kept at b. kept at (subst (λ (s : Standing). FunctionsBreak c.args.features.now s.types c.args.interface.now.functions.entries at) (sym c.standing.view_is) b.1)) c.check_functions.ensures.ok
