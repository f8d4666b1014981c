use Rattle.std.proofs.Common.{◌≡◌, [], map, true, false, refl, ap, sym, ◌∙◌}
use Rattle.distinct_names.specs.Names.{all_new}
use Rattle.component_value_types.proofs.SameNames.{same_names}
use Rattle.component_value_types.proofs.distinct.distinct_vec_of.Goals as goal

pub returns-then-not-branch-clause-gives : goal.returns-then-not-branch-clause-gives
returns-then-not-branch-clause-gives g c = λ named same.
    let xs = c.in_ok-items.items.items in
    let found : all_new [] (map g.T.HasName.name xs) ≡ false = ap (λ l. all_new [] (map g.T.HasName.name l)) (sym c.deref.ensures.value) ∙ sym c.in_ok-are_distinct.ensures ∙ c.if-not-branch.true in
    let bad : all_new [] (map named (map g.T.Part.value xs)) ≡ false = ap (all_new []) (same_names g.T.Part.value named g.T.HasName.name same xs) ∙ found in
    rw (c.broken_at.ensures, c.left-at.ensures, c.in_ok-items.ensures.gives, bad) refl

pub returns-clause-gives : goal.returns-clause-gives
returns-clause-gives g c = λ named same.
    let xs = c.in_ok-items.items.items in
    let found : all_new [] (map g.T.HasName.name xs) ≡ true = ap (λ l. all_new [] (map g.T.HasName.name l)) (sym c.deref.ensures.value) ∙ sym c.in_ok-are_distinct.ensures ∙ c.if-not-branch.false in
    let good : all_new [] (map named (map g.T.Part.value xs)) ≡ true = ap (all_new []) (same_names g.T.Part.value named g.T.HasName.name same xs) ∙ found in
    rw (c.in_ok-items.ensures.gives, good) refl
