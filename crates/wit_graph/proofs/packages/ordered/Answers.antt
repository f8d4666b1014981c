use Rattle.std.proofs.Common.{◌≡◌, ℕ, ◌<◌, ◌≤◌, ◌+◌, ◌++◌, ◌∷◌, [], inl, inr, List, length, sym, subst, ap, ◌∙◌, arith}
use Rattle.std.proofs.lemmas.Bool.Decides.{leb_tells}
use Rattle.wit_order.specs.Order.{Has}
use Rattle.wit_order.proofs.Lists.{has_more, has_was, has_last}
use Rattle.wit_reach.specs.Paths.{AreRising}
use Rattle.wit_reach.proofs.Lists.{rising_append, rising_first}
use Rattle.wit_graph.specs.Graph.{IsPackageDep}
use Rattle.wit_graph.proofs.packages.ordered.Goals as goal

pub loop-index-preserved : goal.loop-index-preserved
loop-index-preserved c =
    let n : ℕ = c.loop-index.index in
    let was : List ℕ = c.loop-index.order.items in
    let inv = c.loop-index.invariant in
    let e : c.push.new.self.items ≡ was ++ n ∷ [] = c.in_ok-push.ensures.items ∙ ap (λ (x : ℕ). was ++ x ∷ []) c.from_index.ensures in
    record {
      rising = subst AreRising (sym e) (rising_append was n inv.rising inv.below);
      below = λ j h. elim (has_more was n j (subst (λ (l : List ℕ). Has l j) e h)) as (λ _. j < n + 1) [
        | inl here ↦ (let same : j ≡ n = here in omega arith)
        | inr before ↦ (let l : j < n = inv.below j before in omega arith)
      ];
      all = λ j l. subst (λ (xs : List ℕ). Has xs j) (sym e) (elim (leb_tells n j) as (λ _. Has (was ++ n ∷ []) j) [
        | inl up ↦ (let le : n ≤ j = up.1 in let same : n ≡ j = omega arith in subst (Has (was ++ n ∷ [])) same (has_last was n))
        | inr down ↦ has_was was (n ∷ []) j (inv.all j down.1)
      ]);
    }

pub returns : goal.returns
returns c =
    let n : ℕ = length c.args.tables.now.packages in
    let needs : ℕ → ℕ → Type 0 = IsPackageDep c.args.tables.now in
    let order : List ℕ = c.loop-index.order.items in
    let inv = c.loop-index.invariant in
    let most : c.loop-index.index ≤ c.len-index-end.result = c.loop-index.auto.index-end in
    let least : c.len-index-end.result ≤ c.loop-index.index = c.loop-index-test.false in
    let long : c.len-index-end.result ≡ n = c.len-index-end.ensures in
    let all : (i : ℕ) → i < n → Has order i = λ i l. inv.all i (omega (arith, l, least, long)) in
    let within : (i : ℕ) → Has order i → i < n = λ i h. (let l : i < c.loop-index.index = inv.below i h in omega (arith, l, most, long)) in
    record {
      all = all;
      within = within;
      first = rising_first n needs [] order inv.rising (λ y z h k. absurd h) (λ i j h u. inr (all j (let l : i < n = within i h in let below : j < i = c.requires.backward i j u in omega arith))) c.requires.backward;
    }
