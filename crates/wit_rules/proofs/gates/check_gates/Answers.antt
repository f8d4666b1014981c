use Rattle.std.proofs.Common.{◌≡◌, List, Some, map, sym, ap, ◌∙◌}
use Rattle.std.specs.Prelude.{option_map}
use Rattle.wit_scopes.specs.Passed.wit_items-ItemTree.{AttributeTree}
use Rattle.wit_scopes.specs.Passed.wit_syntax-AstView as view
use Rattle.wit_scopes.proofs.Outcomes.{if_err, on_ok}
use Rattle.wit_rules.specs.Gates.{GatesTree, gates_in}
use Rattle.wit_rules.specs.View as seen
use Rattle.wit_rules.specs.Breaks as fact
use Rattle.wit_rules.specs.Breaks.{IsFaultOf, GateVersionsBreak, GatesBreak}
use Rattle.wit_rules.proofs.Breaking.{widened}
use Rattle.wit_rules.proofs.Gating.{gates_kept}
use Rattle.wit_rules.proofs.gates.check_gates.Goals as goal

pub returns-in-Some-clause-cause : goal.returns-in-Some-clause-cause
returns-in-Some-clause-cause c =
    let attributes : List AttributeTree = map view.attribute c.args.attributes.now in
    let g : GatesTree = seen.gates c.in-Some.gates in
    let is : gates_in attributes ≡ Some g = sym c.gates_of.ensures ∙ ap (option_map seen.gates) c.in-Some.is in
    if_err c.check_gate_versions.result (IsFaultOf (GateVersionsBreak g)) (IsFaultOf (GatesBreak attributes)) (widened (GateVersionsBreak g) (GatesBreak attributes) (λ rule at b. fact.by_version g is b)) c.check_gate_versions.ensures.cause

pub returns-in-Some-clause-ok : goal.returns-in-Some-clause-ok
returns-in-Some-clause-ok c =
    let attributes : List AttributeTree = map view.attribute c.args.attributes.now in
    let g : GatesTree = seen.gates c.in-Some.gates in
    let is : gates_in attributes ≡ Some g = sym c.gates_of.ensures ∙ ap (option_map seen.gates) c.in-Some.is in
    on_ok c.check_gate_versions.result (gates_kept attributes g is) c.check_gate_versions.ensures.ok
