use Rattle.wit_component.specs.View as view
use Rattle.component_audit.specs.SpacesView.{spaces, instance, is_within}
use Rattle.wit_component.specs.Right.{TakesOwn}
use Rattle.component_audit.proofs.Searching.{Going}
use Rattle.component_audit.proofs.auditor.first_wrong_given.Given as goal

abbrev pub invariant-loop-instance : goal.invariant-loop-instance
invariant-loop-instance l = Going (instance (view.linking l.linking).main) is_within (λ i. TakesOwn (view.linking l.linking) (spaces (view.linking l.linking).main l.spaces) i.source) l.spaces.instances.items l.instance-index
