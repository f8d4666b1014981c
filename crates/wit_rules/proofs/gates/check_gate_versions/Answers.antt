use Rattle.std.proofs.Common.{sym, subst}
use Rattle.std.specs.Prelude.{OnOk}
use Rattle.wit_rules.specs.declared.gates.Gates.{Gates}
use Rattle.wit_rules.specs.View as seen
use Rattle.wit_rules.specs.Breaks.{IsKept, GateVersionsBreak}
use Rattle.wit_rules.proofs.gates.check_gate_versions.Goals as goal

pub returns-in-OfFeature-clause-ok : goal.returns-in-OfFeature-clause-ok
returns-in-OfFeature-clause-ok c = subst (λ (g : Gates). OnOk c.check_version_where.result (IsKept (GateVersionsBreak (seen.gates g)))) (sym c.in-OfFeature.is) c.check_version_where.ensures.ok
