-- What is kept is what paths reach.
use Rattle.std.proofs.Common.{◌≡◌, ℕ, ◌+◌, ◌<◌, ◌≤◌, ◌↔◌, List, [], ◌∷◌, ◌++◌, inl, inr, Some, Vec, refl, sym, subst, ap, ◌∙◌, arith, append_assoc, length, length-append, get_or}
use Rattle.std.specs.declared.alloc.Global.{Global}
use Rattle.std.proofs.lemmas.Option.{slice_get_within, slice_get-get_or}
use Rattle.std.specs.Prelude.{slice_get}
use Rattle.wit_order.specs.Order.{Has}
use Rattle.wit_order.specs.Places.{Rows, row, Needs}
use Rattle.wit_order.proofs.Lists.{row_read}
use Rattle.wit_reach.specs.Paths.{AreBackward, IsPath, Reaches, AreEnds}
use Rattle.wit_reach.proofs.Growing.{reaches_more, reaches_was}
use Rattle.wit_closures.specs.Closures.{IsNext, AreReached}
use Rattle.wit_closures.proofs.Next.{get_more}

-- ---- the next one

module _ (rows : Rows) (closures : List (List ℕ)) (deps closure : List ℕ) (backward : AreBackward (Needs rows)) (reached : AreReached rows closures)
    (uses : (j : ℕ) → Has deps j ↔ Needs rows (length closures) j) (next : IsNext closures deps closure) where
  abbrev n : ℕ
  n = length closures

  -- a path from it is none, or goes on from one that it uses
  all_there : (i : ℕ) → Reaches (Needs rows) n i → Has closure i
  all_there i ([], e) = subst (Has closure) e next.itself
  all_there i (k ∷ via, p) =
      let used : Has deps k = (uses k).1 p.0 in
      let less : k < n = backward n k p.0 in
      let at : slice_get closures k ≡ Some (get_or closures k []) = slice_get-get_or closures k [] less in
      next.all i (k, used, (get_or closures k [], at, (reached k (get_or closures k []) at).all i k refl (via, p.1)))

  only_those : (i : ℕ) → Has closure i → (s : ℕ) × (s ≡ n) × Reaches (Needs rows) s i
  only_those i h = elim (next.only i h) as (λ _. (s : ℕ) × (s ≡ n) × Reaches (Needs rows) s i) [
    | inl here ↦ (n, refl, ([], sym here))
    | inr below ↦ (
        let r = (reached below.0 below.2.0 below.2.1).only i below.2.2 in
        let path : IsPath (Needs rows) below.0 r.2.0 i = subst (λ (k : ℕ). IsPath (Needs rows) k r.2.0 i) r.1 r.2.1 in
        (n, refl, (below.0 ∷ r.2.0, ((uses below.0).0 below.1, path)))
        )
  ]

  is_reached : AreEnds (Needs rows) (λ s. s ≡ n) closure
  is_reached = record {
    all = λ i s e r. all_there i (subst (λ (k : ℕ). Reaches (Needs rows) k i) e r);
    only = only_those;
    rising = next.rising;
  }

pub next_reached : (rows : Rows) (closures : List (List ℕ)) (deps closure : List ℕ) → AreBackward (Needs rows) → AreReached rows closures
    → ((j : ℕ) → Has deps j ↔ Needs rows (length closures) j) → IsNext closures deps closure → AreReached rows (closures ++ closure ∷ [])
next_reached rows closures deps closure backward reached uses next i c at =
    elim (get_more closures closure i c at) as (λ _. AreEnds (Needs rows) (λ s. s ≡ i) c) [
      | inl was ↦ reached i c was
      | inr last ↦ subst (λ (k : ℕ). AreEnds (Needs rows) (λ s. s ≡ k) c) (sym last.0)
          (subst (AreEnds (Needs rows) (λ s. s ≡ length closures)) (sym last.1) (is_reached rows closures deps closure backward reached uses next))
    ]

-- ---- more behind

pub reached_stay : (rows more : Rows) (closures : List (List ℕ)) → AreBackward (Needs rows) → length closures ≤ length rows → AreReached rows closures → AreReached (rows ++ more) closures
reached_stay rows more closures backward long reached i c at =
    let was : AreEnds (Needs rows) (λ s. s ≡ i) c = reached i c at in
    let within : i < length closures = slice_get_within closures i c at in
    let less : i < length rows = omega (arith, within, long) in
    record {
      all = λ j s e r. was.all j s e (reaches_was rows more s j backward (subst (λ (k : ℕ). k < length rows) (sym e) less) r);
      only = λ j h. (let o = was.only j h in (o.0, o.1, reaches_more rows more o.0 j o.2));
      rising = was.rising;
    }

-- ---- one row after the other

pub row_is : (rows : Rows) (n k : ℕ) (v : Vec ℕ Global) (deps : List ℕ) → k ≡ n → n < length rows → v ≡ get_or rows k v → deps ≡ v.items → row rows n ≡ deps
row_is rows n k v deps same less at is = row_read rows n v less (subst (λ (i : ℕ). v ≡ get_or rows i v) same at) ∙ sym is

pub row_below : (rows : Rows) (n : ℕ) (deps : List ℕ) → AreBackward (Needs rows) → row rows n ≡ deps → (d : ℕ) → Has deps d → d < n
row_below rows n deps backward is d h = backward n d (subst (λ (l : List ℕ). Has l d) (sym is) h)

pub one_more : (rows : Rows) (first ls new : List (List ℕ)) (deps : List ℕ) → AreBackward (Needs rows) → length ls < length rows → AreReached rows ls → ((more : List (List ℕ)) × (ls ≡ first ++ more)) → row rows (length ls) ≡ deps
    → (c : List ℕ) × IsNext ls deps c × (new ≡ ls ++ c ∷ [])
    → (length new ≤ length rows) × AreReached rows new × ((more : List (List ℕ)) × (new ≡ first ++ more))
one_more rows first ls new deps backward less reached (more, grown) is (c, next, added) = (
  (let long : length new ≡ length ls + 1 = ap (λ (l : List (List ℕ)). length l) added ∙ length-append ls (c ∷ []) in omega (arith, long, less)),
  subst (AreReached rows) (sym added) (next_reached rows ls deps c backward reached (λ j. ((λ h. subst (λ (l : List ℕ). Has l j) (sym is) h), (λ h. subst (λ (l : List ℕ). Has l j) is h))) next),
  (more ++ c ∷ [], added ∙ ap (λ (l : List (List ℕ)). l ++ c ∷ []) grown ∙ append_assoc first more (c ∷ [])),
)
