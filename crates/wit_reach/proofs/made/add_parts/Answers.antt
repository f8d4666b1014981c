use Rattle.std.proofs.Common.{◌≡◌, ℕ, List, ◌∙◌, ◌++◌, ◌⊎◌, inl, inr, true, sym, subst, ap}
use Rattle.std.proofs.lemmas.Result.{on_ok_weaker}
use Rattle.wit_types.specs.Passed.wit_order-Order.{Has}
use Rattle.wit_reach.specs.Ids.{kind_ids}
use Rattle.wit_reach.specs.Made.{sees_into, Sees}
use Rattle.wit_reach.proofs.Seen.{seen, seen_into}
use Rattle.wit_reach.proofs.made.add_parts.Goals as goal

pub returns-then-not-sees_into-clause-new : goal.returns-then-not-sees_into-clause-new
returns-then-not-sees_into-clause-new c = λ i u. absurd (
    let into = (seen_into c.args.sight.now c.args.types.now c.args.id i c.get-def.result.now c.get-def.ensures u).0 in
    let not = c.sees_into.ensures in let refused = c.if-not-sees_into.true in cc)

pub returns-clause-new : goal.returns-clause-new
returns-clause-new c =
    let e : c.as_slice.result.now ≡ kind_ids c.get-def.result.now.kind = c.as_slice.ensures.value ∙ c.in_ok-add_kind.ensures ∙ ap (λ (l : List ℕ). l ++ kind_ids c.get-def.result.now.kind) c.new-ids.ensures.items in
    on_ok_weaker c.add_all.result
    (λ (all : (i : ℕ) → Has c.as_slice.result.now i → Has c.add_all.new.set.keys i). λ i u. all i (subst (λ (l : List ℕ). Has l i) (sym e) (seen_into c.args.sight.now c.args.types.now c.args.id i c.get-def.result.now c.get-def.ensures u).1))
    c.add_all.ensures.new

pub returns-clause-only : goal.returns-clause-only
returns-clause-only c =
    let e : c.as_slice.result.now ≡ kind_ids c.get-def.result.now.kind = c.as_slice.ensures.value ∙ c.in_ok-add_kind.ensures ∙ ap (λ (l : List ℕ). l ++ kind_ids c.get-def.result.now.kind) c.new-ids.ensures.items in
    let into : sees_into c.args.sight.now c.get-def.result.now.owner ≡ true = sym c.sees_into.ensures ∙ c.if-not-sees_into.false in
    on_ok_weaker c.add_all.result
    (λ (only : (i : ℕ) → Has c.add_all.new.set.keys i → Has c.args.set.now.keys i ⊎ Has c.as_slice.result.now i). λ i h. elim (only i h) as (λ _. Has c.args.set.now.keys i ⊎ Sees c.args.sight.now c.args.types.now c.args.id i) [
      | inl was ↦ inl was
      | inr new ↦ inr (seen c.args.sight.now c.args.types.now c.args.id i c.get-def.result.now c.get-def.ensures into (subst (λ (l : List ℕ). Has l i) e new))
    ])
    c.add_all.ensures.only
