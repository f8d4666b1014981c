use Rattle.std.proofs.Common.{Option, sym, subst}
use Rattle.std.specs.Prelude.{OnOk, option_map}
use Rattle.wit_scopes.specs.Passed.wit_productions-declared-names-Version.{Version}
use Rattle.wit_scopes.specs.Passed.wit_syntax-AstView as view
use Rattle.wit_rules.specs.Breaks.{IsKept, VersionWhereBreaks}
use Rattle.wit_rules.proofs.gates.check_version_where.Goals as goal

pub returns-in-Some-clause-ok : goal.returns-in-Some-clause-ok
returns-in-Some-clause-ok c = subst (λ (v : Option Version). OnOk c.check_version.result (IsKept (VersionWhereBreaks (option_map view.version v)))) (sym c.in-Some.is) c.check_version.ensures.ok
