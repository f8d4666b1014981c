use Rattle.std.proofs.Common.{◌≡◌, ℕ, ◌⊎◌, inl, inr, List, sym, subst, ◌∙◌, ◌++◌, ◌∷◌, [], ap, true}
use Rattle.std.specs.Prelude.{Vec}
use Rattle.std.specs.declared.alloc.Global.{Global}
use Rattle.wit_types.specs.Passed.wit_order-Order.{Has}
use Rattle.wit_types.proofs.Passed.wit_order-Lists.{has_was, has_last, has_more}
use Rattle.wit_reach.proofs.Lists.{item_has, item_more}
use Rattle.wit_reach.proofs.reach.add_others.Goals as goal
use Rattle.wit_reach.proofs.reach.add_others.Goals.{then-not-has+in_ok-push, else-not-has}

pub loop-interface-preserved : goal.loop-interface-preserved
loop-interface-preserved c =
    let old : List ℕ = c.loop-interface.found.items in
    let w : List ℕ = c.args.interfaces.now in
    let k : ℕ = c.loop-interface.interface-index in
    let x : ℕ = c.interface-item.result in
    let now : List ℕ = c.if-not-has.found.items in
    let inv = c.loop-interface.invariant in
    let set : List ℕ = c.args.set.now.keys in
    elim c.if-not-has.branch [
      | then-not-has+in_ok-push b ↦
          let out : Has set x → ⊥ = λ h. (let t : c.has.result ≡ true = c.has.ensures.1 h in let f = b.if-not-has.true in absurd cc) in
          let e : now ≡ old ++ x ∷ [] = ap (λ (v : Vec ℕ Global). v.items) b.found-is ∙ b.in_ok-push.ensures.items in
          record {
            was = λ i h. subst (λ (l : List ℕ). Has l i) (sym e) (has_was old (x ∷ []) i (inv.was i h));
            new = λ i h no. subst (λ (l : List ℕ). Has l i) (sym e) (elim (item_more w k x i c.loop-interface-test.true c.interface-item.is h) as (λ _. Has (old ++ x ∷ []) i) [
              | inl same ↦ subst (λ (z : ℕ). Has (old ++ x ∷ []) z) (sym same) (has_last old x)
              | inr t ↦ has_was old (x ∷ []) i (inv.new i t no)
            ]);
            only = λ i h. elim (has_more old x i (subst (λ (l : List ℕ). Has l i) e h)) as (λ _. Has c.args.found.now.items i ⊎ (Has w i × (Has set i → ⊥))) [
              | inl same ↦ inr (subst (λ (z : ℕ). Has w z) (sym same) (item_has w k x c.loop-interface-test.true c.interface-item.is), λ h2. out (subst (λ (z : ℕ). Has set z) same h2))
              | inr was ↦ inv.only i was
            ];
          }
      | else-not-has b ↦
          let in_set : Has set x = c.has.ensures.0 b.if-not-has.false in
          let e : now ≡ old = ap (λ (v : Vec ℕ Global). v.items) b.found-is in
          record {
            was = λ i h. subst (λ (l : List ℕ). Has l i) (sym e) (inv.was i h);
            new = λ i h no. elim (item_more w k x i c.loop-interface-test.true c.interface-item.is h) as (λ _. Has now i) [
              | inl same ↦ absurd (no (subst (λ (z : ℕ). Has set z) (sym same) in_set))
              | inr t ↦ subst (λ (l : List ℕ). Has l i) (sym e) (inv.new i t no)
            ];
            only = λ i h. inv.only i (subst (λ (l : List ℕ). Has l i) e h);
          }
    ]
