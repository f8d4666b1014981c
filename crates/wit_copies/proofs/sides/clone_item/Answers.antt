use Rattle.wit_copies.specs.Same as spec
use Rattle.wit_copies.proofs.Clones.{same_stability, same_function}
use Rattle.wit_copies.proofs.sides.clone_item.Goals as goal

pub returns-in_ok-clone-in-Interface : goal.returns-in_ok-clone-in-Interface
returns-in_ok-clone-in-Interface c =
    let i = c.in-Interface in
    let s = c.in_ok-clone-in-Interface in
    rw i.is (spec.same_interface i.id i.stability s.field-0 i.span (same_stability i.stability s.field-0 s.ensures.cases))

pub returns-in_ok-clone-in-Function : goal.returns-in_ok-clone-in-Function
returns-in_ok-clone-in-Function c =
    let f = c.in-Function in
    let g = c.in_ok-clone-in-Function in
    rw f.is (spec.same_function f.function g.field-0 (same_function f.function g.field-0 g.ensures.cases))

pub returns-in-TypeItem : goal.returns-in-TypeItem
returns-in-TypeItem c = rw c.in-TypeItem.is (spec.same_type c.in-TypeItem.id c.in-TypeItem.span)
