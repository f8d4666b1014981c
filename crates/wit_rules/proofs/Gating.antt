-- Gates that keep their rules.
use Rattle.std.proofs.Common.{◌≡◌, List, Some, None, sym, subst, ◌∙◌}
use Rattle.std.proofs.lemmas.Option.{same_Some}
use Rattle.wit_scopes.specs.Passed.wit_items-ItemTree.{AttributeTree}
use Rattle.wit_rules.specs.Gates.{GatesTree, gates_in}
use Rattle.wit_rules.specs.Breaks as fact
use Rattle.wit_rules.specs.Breaks.{IsKept, GateVersionsBreak, GatesBreak}

pub gates_kept : (attributes : List AttributeTree) (g : GatesTree) → gates_in attributes ≡ Some g → IsKept (GateVersionsBreak g) → IsKept (GatesBreak attributes)
gates_kept attributes g is kept rule at (fact.by_form b) = (let e : Some g ≡ None = sym is ∙ b.none in absurd cc)
gates_kept attributes g is kept rule at (fact.by_version h other b) = kept rule at (subst (λ (x : GatesTree). GateVersionsBreak x rule at) (same_Some h g (sym other ∙ is)) b)
