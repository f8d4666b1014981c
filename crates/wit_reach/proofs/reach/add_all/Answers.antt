use Rattle.std.proofs.Common.{◌≡◌, ℕ, ◌⊎◌, ◌∷◌, ◌++◌, [], inl, inr, List, sym, subst, ap, length, ◌∙◌, append_assoc}
use Rattle.wit_types.specs.Passed.wit_order-Order.{Has}
use Rattle.wit_types.proofs.Passed.wit_order-Lists.{has_insert, has_inserted, has_more, has_was, has_last}
use Rattle.wit_reach.proofs.Lists.{has_parts, copied_next, copied_none}
use Rattle.wit_reach.proofs.reach.add_all.Goals as goal

pub loop-id-preserved : goal.loop-id-preserved
loop-id-preserved g c =
    let old : List ℕ = c.loop-id.set.keys in
    let w : List ℕ = c.args.ids.now in
    let left : List ℕ = c.loop-id.id-iterator.iter.rest.now in
    let rest : List ℕ = c.next.new.self.iter.rest.now in
    let done : List ℕ = c.loop-id.yielded in
    let r : ℕ = c.in-Some.id in
    let x : ℕ = c.index.result in
    let e : x ≡ r = c.index.ensures in
    let now : List ℕ = c.insert.new.self.keys in
    let inv = c.loop-id.invariant in
    let s = c.in-Some.ensures.steps in
    let next : left ≡ r ∷ rest = copied_next ((length left ≡ 0) × (c.next.new.self.iter ≡ c.loop-id.id-iterator.iter)) s.0 left rest r s.1 s.2 in
    let walked : (done ++ r ∷ []) ++ rest ≡ w = append_assoc done (r ∷ []) rest ∙ ap (λ (l : List ℕ). done ++ l) (sym next) ∙ inv.walked in
    let adds : (i : ℕ) → (i ≡ x) ⊎ Has old i → Has now i = λ i h. subst (λ (l : List ℕ). Has l i) (sym c.in_ok-insert.ensures.keys) (has_insert old x i h) in
    record {
      walked = walked;
      was = λ i h. adds i (inr (inv.was i h));
      new = λ i h. elim (has_more done r i h) as (λ _. Has now i) [ inl here ↦ adds i (inl (here ∙ sym e)) | inr t ↦ adds i (inr (inv.new i t)) ];
      only = λ i h. elim (has_inserted old x i (subst (λ (l : List ℕ). Has l i) c.in_ok-insert.ensures.keys h)) as (λ _. Has c.args.set.now.keys i ⊎ Has w i) [
        | inl here ↦ inr (subst (λ (l : List ℕ). Has l i) walked (has_was (done ++ r ∷ []) rest i (subst (λ (z : ℕ). Has (done ++ r ∷ []) z) (sym (here ∙ e)) (has_last done r))))
        | inr was ↦ inv.only i was
      ];
    }

pub returns-clause-new : goal.returns-clause-new
returns-clause-new g c = λ i h.
    let w : List ℕ = c.args.ids.now in
    let left : List ℕ = c.loop-id.id-iterator.iter.rest.now in
    let done : List ℕ = c.loop-id.yielded in
    let s = c.in-None.ensures.steps in
    let none : left ≡ [] = copied_none (c.next.new.self.iter ≡ c.loop-id.id-iterator.iter) (λ y. left ≡ y.now ∷ c.next.new.self.iter.rest.now) s.0 left s.1 s.2 in
    elim (has_parts done left i (subst (λ (l : List ℕ). Has l i) (sym c.loop-id.invariant.walked) h)) as (λ _. Has c.loop-id.set.keys i) [
      | inl here ↦ c.loop-id.invariant.new i here
      | inr later ↦ absurd (subst (λ (l : List ℕ). Has l i) none later)
    ]
