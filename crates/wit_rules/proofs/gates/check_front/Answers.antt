use Rattle.std.proofs.Common.{List, map, subst}
use Rattle.std.specs.Prelude.{OnOk}
use Rattle.wit_scopes.specs.Passed.wit_items-declared-items-Attribute.{Attribute}
use Rattle.wit_scopes.specs.Passed.wit_syntax-AstView as view
use Rattle.wit_rules.specs.Breaks.{IsKept, GatesBreak}
use Rattle.wit_rules.proofs.gates.check_front.Goals as goal

pub returns-clause-ok : goal.returns-clause-ok
returns-clause-ok c = subst (λ (them : List Attribute). OnOk c.check_gates.result (IsKept (GatesBreak (map view.attribute them)))) c.as_slice.ensures.value c.check_gates.ensures.ok
