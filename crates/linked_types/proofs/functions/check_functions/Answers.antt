use Rattle.std.proofs.Common.{◌++◌, ap, subst, ◌∙◌}
use Rattle.std.specs.Prelude.{List, ℕ, OnOk, IfErr}
use Rattle.wit_types.specs.Passed.wit_order-Order.{Has}
use Rattle.linked_types.specs.Reached.{functions, ids_of, AreTypesLinked, IsTypeCause}
use Rattle.linked_types.proofs.Walks.{Looked, order_there, if_linked, if_not}
use Rattle.linked_types.proofs.functions.check_functions.Goals as goal

pub check_types-requires : goal.check_types-requires
check_types-requires c =
    let fs = functions c.args.functions.now in
    let asked = c.as_slice.ensures.value ∙ c.in_ok-add_functions.ensures.ids ∙ ap (λ l. l ++ ids_of fs) c.new-ids.ensures.items in
    let looked : Looked c.args.types.now fs c.as_slice.result.now c.in_ok-reached.reached.items = record { asked_are = asked; ends = c.in_ok-reached.ensures } in
    λ i has. order_there c.args.types.now fs c.as_slice.result.now c.in_ok-reached.reached.items looked c.requires.backward c.requires.there i (subst (λ (l : List ℕ). Has l i) c.as_slice-2.ensures.value has)

pub returns-clause-linked : goal.returns-clause-linked
returns-clause-linked c =
    let types = c.args.types.now in
    let fs = functions c.args.functions.now in
    let asked = c.as_slice.ensures.value ∙ c.in_ok-add_functions.ensures.ids ∙ ap (λ l. l ++ ids_of fs) c.new-ids.ensures.items in
    let looked : Looked types fs c.as_slice.result.now c.in_ok-reached.reached.items = record { asked_are = asked; ends = c.in_ok-reached.ensures } in
    if_linked types fs c.as_slice.result.now c.in_ok-reached.reached.items looked c.check_types.result c.in_ok-add_functions.ensures.linked
    (subst (λ (l : List ℕ). OnOk c.check_types.result (AreTypesLinked types l)) c.as_slice-2.ensures.value c.check_types.ensures.linked)

pub returns-clause-cause : goal.returns-clause-cause
returns-clause-cause c =
    let types = c.args.types.now in
    let fs = functions c.args.functions.now in
    let asked = c.as_slice.ensures.value ∙ c.in_ok-add_functions.ensures.ids ∙ ap (λ l. l ++ ids_of fs) c.new-ids.ensures.items in
    let looked : Looked types fs c.as_slice.result.now c.in_ok-reached.reached.items = record { asked_are = asked; ends = c.in_ok-reached.ensures } in
    if_not types fs c.as_slice.result.now c.in_ok-reached.reached.items looked c.check_types.result
    (subst (λ (l : List ℕ). IfErr c.check_types.result (IsTypeCause types l)) c.as_slice-2.ensures.value c.check_types.ensures.cause)
