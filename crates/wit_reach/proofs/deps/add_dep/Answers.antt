use Rattle.std.proofs.Common.{◌≡◌, ℕ, ◌⊎◌, inl, inr, List, sym, subst, ◌∙◌}
use Rattle.std.proofs.lemmas.Option.{same_Some}
use Rattle.wit_types.specs.Passed.wit_order-Order.{Has}
use Rattle.wit_types.proofs.Passed.wit_order-Lists.{has_insert, has_inserted}
use Rattle.wit_reach.specs.Deps.{IsDepOf}
use Rattle.wit_reach.proofs.deps.add_dep.Goals as goal

pub returns-in_ok-insert-clause-was : goal.returns-in_ok-insert-clause-was
returns-in_ok-insert-clause-was c = λ i h. subst (λ (l : List ℕ). Has l i) (sym c.in_ok-insert.ensures.keys) (has_insert c.args.set.now.keys c.index.result i (inr h))

pub returns-in_ok-insert-clause-new : goal.returns-in_ok-insert-clause-new
returns-in_ok-insert-clause-new c = λ i h.
    let same : c.in-Some.dep ≡ i = same_Some c.in-Some.dep i (sym c.in-Some.is ∙ c.type_interface_dep.ensures.all i h) in
    subst (λ (l : List ℕ). Has l i) (sym c.in_ok-insert.ensures.keys) (has_insert c.args.set.now.keys c.index.result i (inl (sym same ∙ sym c.index.ensures)))

pub returns-in_ok-insert-clause-only : goal.returns-in_ok-insert-clause-only
returns-in_ok-insert-clause-only c = λ i h.
    elim (has_inserted c.args.set.now.keys c.index.result i (subst (λ (l : List ℕ). Has l i) c.in_ok-insert.ensures.keys h)) as (λ _. Has c.args.set.now.keys i ⊎ IsDepOf c.args.types.now c.args.id i) [
      | inl here ↦ inr (subst (λ (z : ℕ). IsDepOf c.args.types.now c.args.id z) (sym (here ∙ c.index.ensures)) c.in-Some.ensures.some)
      | inr was ↦ inl was
    ]

pub returns-in_default-clause-new : goal.returns-in_default-clause-new
returns-in_default-clause-new c = λ i h. absurd (let some = c.type_interface_dep.ensures.all i h in let none = c.in_default.is in cc)
