use Rattle.std.proofs.Common.{◌≡◌, ℕ, ◌<◌, ◌⊎◌, inl, inr, List, Some, sym, subst, length}
use Rattle.std.specs.Prelude.{slice_get}
use Rattle.wit_order.specs.Order.{Has}
use Rattle.wit_reach.proofs.Lists.{item_has, item_more}
use Rattle.wit_closures.specs.Closures.{IsBelow}
use Rattle.wit_closures.proofs.closures.add_closures.Goals as goal

pub get-requires : goal.get-requires
get-requires c =
    let ls : List (List ℕ) = c.args.lists.now in
    subst (λ (k : ℕ). k < length ls) (sym c.index.ensures) (c.requires c.dep-item.result (item_has c.args.deps.now c.loop-dep.dep-index c.dep-item.result c.loop-dep-test.true c.dep-item.is))

pub loop-dep-preserved : goal.loop-dep-preserved
loop-dep-preserved c =
    let ls : List (List ℕ) = c.args.lists.now in
    let deps : List ℕ = c.args.deps.now in
    let k : ℕ = c.loop-dep.dep-index in
    let dep : ℕ = c.dep-item.result in
    let list : List ℕ = c.get.result.now in
    let now : List ℕ = c.add_list.new.set.keys in
    let inv = c.loop-dep.invariant in
    let there : Has deps dep = item_has deps k dep c.loop-dep-test.true c.dep-item.is in
    let at : slice_get ls dep ≡ Some list = subst (λ (i : ℕ). slice_get ls i ≡ Some list) c.index.ensures c.get.ensures in
    record {
      was = λ j h. c.in_ok-add_list.ensures.was j (inv.was j h);
      new = λ j b. elim (item_more deps k dep b.0 c.loop-dep-test.true c.dep-item.is b.1) as (λ _. Has now j) [
        | inl here ↦ c.in_ok-add_list.ensures.new j (subst (λ (l : List ℕ). Has l j) (let e : slice_get ls b.0 ≡ Some b.2.0 = b.2.1 in cc) b.2.2)
        | inr before ↦ c.in_ok-add_list.ensures.was j (inv.new j (b.0, before, b.2))
      ];
      only = λ j h. elim (c.in_ok-add_list.ensures.only j h) as (λ _. Has c.args.set.now.keys j ⊎ IsBelow ls deps j) [
        | inl was ↦ inv.only j was
        | inr added ↦ inr (dep, there, (list, at, added))
      ];
    }
