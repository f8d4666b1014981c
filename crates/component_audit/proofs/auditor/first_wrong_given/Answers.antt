use Rattle.std.proofs.Common.{refl}
use Rattle.wit_component.specs.Right.{TakesOwn}
use Rattle.component_audit.specs.SpacesView.{spaces, instance, is_within}
use Rattle.wit_component.specs.View as view
use Rattle.component_audit.proofs.Searching.{going_on}
use Rattle.component_audit.proofs.auditor.first_wrong_given.Goals as goal

pub loop-instance-preserved : goal.loop-instance-preserved
loop-instance-preserved c =
    let l = view.linking c.args.linking.now in
    going_on (instance l.main) is_within (λ i. TakesOwn l (spaces l.main c.args.spaces.now) i.source) c.args.spaces.now.instances.items c.deref-instance-items.result.now c.deref-instance-items.ensures.value
    c.loop-instance.instance-index c.instance-item.result c.loop-instance-test.true c.instance-item.is c.loop-instance.invariant (c.in_default.ensures.right refl)
