use Rattle.std.specs.Prelude.{nat_le}
use Rattle.wit_component.specs.View as view
use Rattle.component_audit.specs.SpacesView.{spaces, export_entry}
use Rattle.wit_component.specs.Right.{LiftsOwn}
use Rattle.component_audit.proofs.Searching.{Going}
use Rattle.component_audit.proofs.auditor.first_wrong_lift.Given as goal

abbrev pub invariant-loop-entry : goal.invariant-loop-entry
invariant-loop-entry l = Going export_entry (λ n e. nat_le e.offset n) (LiftsOwn (view.linking l.linking) (spaces (view.linking l.linking).main l.spaces)) l.spaces.exports.items l.entry-index
