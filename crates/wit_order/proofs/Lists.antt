use Rattle.std.proofs.Common.{◌≡◌, ℕ, ◌<◌, ◌≤◌, ◌+◌, List, [], ◌∷◌, ◌++◌, ◌⊎◌, inl, inr, refl, sym, subst, arith, get_or, length, take, drop, set, Bool, true, false, ap, zero, suc, ◌∙◌, add-one}
use Rattle.std.specs.Prelude.{Vec}
use Rattle.std.specs.declared.alloc.Global.{Global}
use Rattle.std.specs.BTreeSet.{insert_key}
use Rattle.std.specs.Ordering.{nat_cmp, match_ordering, MatchOrdering}
use Rattle.std.specs.declared.cmp.Ordering.{Ordering}
use Rattle.std.specs.declared.cmp.Ordering.TheVariants.{Less, Equal, Greater}
use Rattle.std.proofs.lemmas.Cmp.{ranked}
use Rattle.wit_order.specs.Order.{Has}
use Rattle.wit_order.specs.Places.{Rows, row}
use Rattle.wit_order.specs.Sorter.{unset_count}

pub has_get : (xs : List ℕ) (k : ℕ) → k < length xs → Has xs (get_or xs k 0)
has_get [] k h = absurd (omega arith)
has_get (x ∷ xs) zero h = inl refl
has_get (x ∷ xs) (suc k) h = inr (has_get xs k (omega arith))

pub has_place : (xs : List ℕ) (x : ℕ) → Has xs x → (k : ℕ) × (k < length xs) × (get_or xs k 0 ≡ x)
has_place [] x h = absurd h
has_place (y ∷ ys) x h =
    elim h as (λ _. (k : ℕ) × (k < length (y ∷ ys)) × (get_or (y ∷ ys) k 0 ≡ x)) [
      | inl here ↦ (zero, omega arith, sym here)
      | inr later ↦ let r = has_place ys x later in (suc r.0, (let l : r.0 < length ys = r.1 in omega arith), r.2)
    ]

pub has_more : (xs : List ℕ) (y x : ℕ) → Has (xs ++ y ∷ []) x → (x ≡ y) ⊎ Has xs x
has_more [] y x h = h
has_more (z ∷ xs) y x h =
    elim h as (λ _. (x ≡ y) ⊎ Has (z ∷ xs) x) [
      | inl here ↦ inr (inl here)
      | inr later ↦ elim (has_more xs y x later) as (λ _. (x ≡ y) ⊎ Has (z ∷ xs) x) [ inl e ↦ inl e | inr was ↦ inr (inr was) ]
    ]

pub has_was : (xs ys : List ℕ) (x : ℕ) → Has xs x → Has (xs ++ ys) x
has_was [] ys x h = absurd h
has_was (z ∷ xs) ys x h = elim h as (λ _. Has (z ∷ xs ++ ys) x) [ inl here ↦ inl here | inr later ↦ inr (has_was xs ys x later) ]

pub has_last : (xs : List ℕ) (y : ℕ) → Has (xs ++ y ∷ []) y
has_last [] y = inl refl
has_last (z ∷ xs) y = inr (has_last xs y)

pub has_drop : (xs : List ℕ) (k x : ℕ) → k < length xs → Has (drop k xs) x → (x ≡ get_or xs k 0) ⊎ Has (drop (suc k) xs) x
has_drop [] k x l h = absurd (omega arith)
has_drop (y ∷ xs) zero x l h = h
has_drop (y ∷ xs) (suc k) x l h = has_drop xs k x (omega arith) h

pub has_take : (xs : List ℕ) (k x : ℕ) → k < length xs → Has (take (suc k) xs) x → (x ≡ get_or xs k 0) ⊎ Has (take k xs) x
has_take [] k x l h = absurd (omega arith)
has_take (y ∷ xs) zero x l h = h
has_take (y ∷ xs) (suc k) x l h =
    elim h as (λ _. (x ≡ get_or xs k 0) ⊎ Has (take (suc k) (y ∷ xs)) x) [
      | inl here ↦ inr (inl here)
      | inr later ↦ elim (has_take xs k x (omega arith) later) as (λ _. (x ≡ get_or xs k 0) ⊎ Has (take (suc k) (y ∷ xs)) x) [ inl e ↦ inl e | inr was ↦ inr (inr was) ]
    ]

pub row_read : (g : Rows) (i : ℕ) (v : Vec ℕ Global) → i < length g → v ≡ get_or g i v → row g i ≡ v.items
row_read [] i v l e = absurd (omega arith)
row_read (r ∷ g) zero v l e = ap (λ (w : Vec ℕ Global). w.items) (sym e)
row_read (r ∷ g) (suc i) v l e = row_read g i v (omega arith) e

match_ordering_cases : (k x : ℕ) (a b d : List ℕ) (P : List ℕ → Type 0)
    → (k < x → P a) → (k ≡ x → P b) → (x < k → P d) → P (match_ordering (nat_cmp k x) a b d)
match_ordering_cases k x a b d P less same more =
    let r : MatchOrdering (nat_cmp k x) (k < x) (k ≡ x) (x < k) = ranked k x (nat_cmp k x) refl in
    by_cases (nat_cmp k x) r
  where
    by_cases : (o : Ordering) → MatchOrdering o (k < x) (k ≡ x) (x < k) → P (match_ordering o a b d)
    by_cases Less r = less r
    by_cases Equal r = same r
    by_cases Greater r = more r

pub has_insert : (ks : List ℕ) (x i : ℕ) → (i ≡ x) ⊎ Has ks i → Has (insert_key nat_cmp ks x) i
has_insert [] x i h = h
has_insert (k ∷ ks) x i h =
    match_ordering_cases x k (x ∷ k ∷ ks) (k ∷ ks) (k ∷ insert_key nat_cmp ks x) (λ r. Has r i)
    (λ _. h)
    (λ e. elim h as (λ _. Has (k ∷ ks) i) [ inl here ↦ inl (here ∙ e) | inr was ↦ was ])
    (λ _. elim h as (λ _. Has (k ∷ insert_key nat_cmp ks x) i) [
      | inl here ↦ inr (has_insert ks x i (inl here))
      | inr was ↦ elim was as (λ _. Has (k ∷ insert_key nat_cmp ks x) i) [ inl first ↦ inl first | inr later ↦ inr (has_insert ks x i (inr later)) ]
    ])

pub has_inserted : (ks : List ℕ) (x i : ℕ) → Has (insert_key nat_cmp ks x) i → (i ≡ x) ⊎ Has ks i
has_inserted [] x i = λ h. h
has_inserted (k ∷ ks) x i =
    match_ordering_cases x k (x ∷ k ∷ ks) (k ∷ ks) (k ∷ insert_key nat_cmp ks x) (λ r. Has r i → (i ≡ x) ⊎ Has (k ∷ ks) i)
    (λ _ h. h)
    (λ _ h. inr h)
    (λ _ h. elim h as (λ _. (i ≡ x) ⊎ Has (k ∷ ks) i) [
      | inl first ↦ inr (inl first)
      | inr later ↦ elim (has_inserted ks x i later) as (λ _. (i ≡ x) ⊎ Has (k ∷ ks) i) [ inl e ↦ inl e | inr was ↦ inr (inr was) ]
    ])

-- one flag fewer is unset
pub unset_falls : (flags : List Bool) (p : ℕ) → p < length flags → get_or flags p false ≡ false → unset_count (set flags p true) < unset_count flags
unset_falls [] p l e = absurd (omega arith)
unset_falls (true ∷ flags) zero l e = absurd cc
unset_falls (false ∷ flags) zero l e = omega arith
unset_falls (true ∷ flags) (suc p) l e = unset_falls flags p (omega arith) e
unset_falls (false ∷ flags) (suc p) l e = let h : unset_count (set flags p true) < unset_count flags = unset_falls flags p (omega arith) e in omega arith

pub row_set_same : (t : Rows) (o : ℕ) (v : Vec ℕ Global) → o < length t → row (set t o v) o ≡ v.items
row_set_same [] o v l = absurd (omega arith)
row_set_same (r ∷ t) zero v l = refl
row_set_same (r ∷ t) (suc o) v l = row_set_same t o v (omega arith)

pub row_set_other : (t : Rows) (o j : ℕ) (v : Vec ℕ Global) → (j ≡ o → ⊥) → row (set t o v) j ≡ row t j
row_set_other [] o j v ne = refl
row_set_other (r ∷ t) zero zero v ne = absurd (ne refl)
row_set_other (r ∷ t) zero (suc j) v ne = refl
row_set_other (r ∷ t) (suc o) zero v ne = refl
row_set_other (r ∷ t) (suc o) (suc j) v ne = row_set_other t o j v (λ e. ne (ap suc e))

pub row_past : (g : Rows) (i j : ℕ) → Has (row g i) j → i < length g
row_past [] i j h = absurd h
row_past (r ∷ g) zero j h = omega arith
row_past (r ∷ g) (suc i) j h = let l : i < length g = row_past g i j h in omega arith

pub row_more : (t : Rows) (v : Vec ℕ Global) (j : ℕ) → v.items ≡ [] → ((j : ℕ) → row t j ≡ []) → row (t ++ v ∷ []) j ≡ []
row_more [] v zero e all = e
row_more [] v (suc j) e all = refl
row_more (r ∷ t) v zero e all = all zero
row_more (r ∷ t) v (suc j) e all = row_more t v j e (λ k. all (suc k))

pub has_take_more : (xs : List ℕ) (k x : ℕ) → k < length xs → Has (take (k + 1) xs) x → (x ≡ get_or xs k 0) ⊎ Has (take k xs) x
has_take_more xs k x l h = has_take xs k x l (subst (λ (z : ℕ). Has (take z xs) x) (add-one k) h)

pub has_drop_more : (xs : List ℕ) (k x : ℕ) → k < length xs → Has (drop k xs) x → (x ≡ get_or xs k 0) ⊎ Has (drop (k + 1) xs) x
has_drop_more xs k x l h =
    elim (has_drop xs k x l h) as (λ _. (x ≡ get_or xs k 0) ⊎ Has (drop (k + 1) xs) x) [
      | inl e ↦ inl e
      | inr r ↦ inr (subst (λ (z : ℕ). Has (drop z xs) x) (sym (add-one k)) r)
    ]

pub has_dropped : (xs : List ℕ) (k x : ℕ) → k < length xs → Has (drop (k + 1) xs) x → Has (drop k xs) x
has_dropped xs k x l h = dropped xs k x l (subst (λ (z : ℕ). Has (drop z xs) x) (add-one k) h)
  where
    dropped : (xs : List ℕ) (k x : ℕ) → k < length xs → Has (drop (suc k) xs) x → Has (drop k xs) x
    dropped [] k x l h = absurd (omega arith)
    dropped (y ∷ xs) zero x l h = inr h
    dropped (y ∷ xs) (suc k) x l h = dropped xs k x (omega arith) h

pub has_drop_here : (xs : List ℕ) (k : ℕ) → k < length xs → Has (drop k xs) (get_or xs k 0)
has_drop_here [] k l = absurd (omega arith)
has_drop_here (y ∷ xs) zero l = inl refl
has_drop_here (y ∷ xs) (suc k) l = has_drop_here xs k (omega arith)

pub has_drop_all : (xs : List ℕ) (k x : ℕ) → length xs ≤ k → Has (drop k xs) x → ⊥
has_drop_all [] zero x l h = h
has_drop_all [] (suc k) x l h = h
has_drop_all (y ∷ xs) zero x l h = omega arith
has_drop_all (y ∷ xs) (suc k) x l h = has_drop_all xs k x (omega arith) h
