use Rattle.std.specs.List.{AllByRecursion as Each}
use Rattle.wit_component.specs.Right.{LiftsOwn, LinksRight}
use Rattle.component_audit.specs.SpacesView as seen
use Rattle.wit_component.specs.View as view
use Rattle.component_audit.proofs.Judged.{finds_same}
use Rattle.component_audit.proofs.auditor.links_finding.Goals as goal

pub returns-in-Some : goal.returns-in-Some
returns-in-Some c = λ n within.
    let found = c.in-Some.ensures n within.instances in
    (found.0, λ right. found.1 right.imports)

pub returns-in-None : goal.returns-in-None
returns-in-None c = λ n within.
    let l = view.linking c.args.linking.now in
    let s = seen.spaces l.main c.args.spaces.now in
    finds_same n (Each (LiftsOwn l s) s.exports) (LinksRight l s) (λ lifts. record { imports = c.in-None.ensures n within.instances; exports = lifts }) (λ right. right.exports)
    c.first_wrong_lift.result (c.first_wrong_lift.ensures n within.exports)
