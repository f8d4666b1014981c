-- Types that stand in the rows of their interfaces.
use Rattle.std.proofs.Common.{◌≡◌, ℕ, zero, suc, ◌<◌, ◌⊎◌, List, [], ◌∷◌, ◌++◌, Option, Some, None, inl, inr, refl, sym, subst, ap, ◌∙◌, length}
use Rattle.std.proofs.lemmas.Bool.{cases_eq}
use Rattle.std.proofs.lemmas.List.{length-map}
use Rattle.std.proofs.lemmas.Option.{same_Some}
use Rattle.std.specs.Prelude.{slice_get, map, Vec}
use Rattle.std.specs.declared.alloc.Global.{Global}
use Rattle.wit_types.specs.declared.interface.TypeDef.{TypeDef}
use Rattle.wit_types.specs.Passed.wit_order-Order.{Has}
use Rattle.wit_types.specs.Passed.wit_order-Places.{Rows, row}
use Rattle.wit_types.proofs.Passed.wit_order-Lists.{has_last, has_was, has_more}
use Rattle.wit_reach.specs.Paths.{AreRising, AreEnds}
use Rattle.wit_reach.specs.Types.{IsMadeOf}
use Rattle.wit_reach.specs.Deps.{interface_of}
use Rattle.wit_reach.specs.Needed.{BelongsTo, AreNeeded, AreSorted}
use Rattle.wit_reach.proofs.Lists.{rising_append}

-- ---- to which interface a type belongs

-- to none but one
pub belongs_one : (ds : List TypeDef) (i j : ℕ) (d : TypeDef) → slice_get ds i ≡ Some d → BelongsTo ds i j → interface_of d.owner ≡ Some j
belongs_one ds i j d there b = let t = b.1 in let o = b.2 in let same : b.0 ≡ d = cc in subst (λ (x : TypeDef). interface_of x.owner ≡ Some j) same o

belongs_or_not : (ds : List TypeDef) (i j : ℕ) → BelongsTo ds i j ⊎ (BelongsTo ds i j → ⊥)
belongs_or_not ds i j = by_get (slice_get ds i) refl
  where
    by_owner : (d : TypeDef) → slice_get ds i ≡ Some d → (o : Option ℕ) → interface_of d.owner ≡ o → BelongsTo ds i j ⊎ (BelongsTo ds i j → ⊥)
    by_owner d there None e = inr (λ b. let some = belongs_one ds i j d there b in cc)
    by_owner d there (Some k) e = elim (cases_eq k j) as (λ _. BelongsTo ds i j ⊎ (BelongsTo ds i j → ⊥)) [
      | inl same ↦ inl (d, there, e ∙ ap Some same)
      | inr other ↦ inr (λ b. other (same_Some k j (sym e ∙ belongs_one ds i j d there b)))
    ]

    by_get : (o : Option TypeDef) → slice_get ds i ≡ o → BelongsTo ds i j ⊎ (BelongsTo ds i j → ⊥)
    by_get None e = inr (λ b. let there = b.1 in cc)
    by_get (Some d) e = by_owner d e (interface_of d.owner) refl

-- ---- one type more

module _ (ds : List TypeDef) (done : List ℕ) (i : ℕ) (was now : Rows)
    (own : (j : ℕ) → BelongsTo ds i j → row now j ≡ row was j ++ i ∷ [])
    (others : (j : ℕ) → (BelongsTo ds i j → ⊥) → row now j ≡ row was j)
    (above : (y : ℕ) → Has done y → y < i) (s : AreSorted ds done was) where
  stays : (j a : ℕ) → Has (row was j) a → Has (row now j) a
  stays j a h = elim (belongs_or_not ds i j) as (λ _. Has (row now j) a) [
    | inl b ↦ subst (λ (l : List ℕ). Has l a) (sym (own j b)) (has_was (row was j) (i ∷ []) a h)
    | inr n ↦ subst (λ (l : List ℕ). Has l a) (sym (others j n)) h
  ]

  sorted_all : (a j : ℕ) → Has (done ++ i ∷ []) a → BelongsTo ds a j → Has (row now j) a
  sorted_all a j h b = elim (has_more done i a h) as (λ _. Has (row now j) a) [
    | inl e ↦ subst (λ (z : ℕ). Has (row now j) z) (sym e) (subst (λ (l : List ℕ). Has l i) (sym (own j (subst (λ (z : ℕ). BelongsTo ds z j) e b))) (has_last (row was j) i))
    | inr d ↦ stays j a (s.all a j d b)
  ]

  was_sorted : (a j : ℕ) → Has (row was j) a → Has (done ++ i ∷ []) a × BelongsTo ds a j
  was_sorted a j h = (has_was done (i ∷ []) a (s.only a j h).0, (s.only a j h).1)

  sorted_only : (a j : ℕ) → Has (row now j) a → Has (done ++ i ∷ []) a × BelongsTo ds a j
  sorted_only a j h = elim (belongs_or_not ds i j) as (λ _. Has (done ++ i ∷ []) a × BelongsTo ds a j) [
    | inl b ↦ elim (has_more (row was j) i a (subst (λ (l : List ℕ). Has l a) (own j b) h)) as (λ _. Has (done ++ i ∷ []) a × BelongsTo ds a j) [
      | inl e ↦ subst (λ (z : ℕ). Has (done ++ i ∷ []) z × BelongsTo ds z j) (sym e) (has_last done i, b)
      | inr w ↦ was_sorted a j w
    ]
    | inr n ↦ was_sorted a j (subst (λ (l : List ℕ). Has l a) (others j n) h)
  ]

  sorted_rising : (j : ℕ) → AreRising (row now j)
  sorted_rising j = elim (belongs_or_not ds i j) as (λ _. AreRising (row now j)) [
    | inl b ↦ subst AreRising (sym (own j b)) (rising_append (row was j) i (s.rising j) (λ y h. above y (s.only y j h).0))
    | inr n ↦ subst AreRising (sym (others j n)) (s.rising j)
  ]

  pub sorted_more : AreSorted ds (done ++ i ∷ []) now
  sorted_more = record { all = sorted_all; only = sorted_only; rising = sorted_rising }

-- ---- all of them

rows_get : (rows : Rows) (j : ℕ) (l : List ℕ) → slice_get (map (λ (v : Vec ℕ Global). v.items) rows) j ≡ Some l → row rows j ≡ l
rows_get [] j l e = absurd cc
rows_get (r ∷ rows) zero l e = same_Some r.items l e
rows_get (r ∷ rows) (suc j) l e = rows_get rows j l e

pub are_needed : (n : ℕ) (ds : List TypeDef) (ids order : List ℕ) (rows : Rows) → length rows ≡ n → AreEnds (IsMadeOf ds) (Has ids) order → AreSorted ds order rows
    → AreNeeded n ds ids (map (λ (v : Vec ℕ Global). v.items) rows)
are_needed n ds ids order rows size ends s = record {
  size = length-map rows (λ (v : Vec ℕ Global). v.items) ∙ size;
  rising = λ j l e. subst AreRising (rows_get rows j l e) (s.rising j);
  needed = λ j l e i. (
    (λ h. let o = s.only i j (subst (λ (k : List ℕ). Has k i) (sym (rows_get rows j l e)) h) in (o.1, ends.only i o.0)),
    (λ u. subst (λ (k : List ℕ). Has k i) (rows_get rows j l e) (s.all i j (ends.all i u.1.0 u.1.1 u.1.2) u.0)),
  );
}
