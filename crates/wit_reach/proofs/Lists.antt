-- Lists of interfaces.
use Rattle.std.proofs.Common.{◌≡◌, ℕ, zero, suc, ◌<◌, ◌+◌, List, [], ◌∷◌, ◌++◌, ◌⊎◌, inl, inr, refl, sym, subst, arith, length, take, get_or, Bool, true, false, ap, ◌∙◌, Bor}
use Rattle.std.proofs.lemmas.Cmp.{ranked}
use Rattle.std.proofs.lemmas.List.{reverse-append, get_or_default}
use Rattle.std.specs.BTreeMap.{is_at}
use Rattle.std.specs.BTreeMap.Range.{IsLtBy}
use Rattle.std.specs.List.{All, list_any}
use Rattle.std.specs.Ordering.{is_eq, nat_cmp, MatchOrdering}
use Rattle.std.specs.Prelude.{reverse, ◌||◌, Option, None, Some, IsSome, ◌↔◌, MatchOption}
use Rattle.std.specs.Option.{option_copied}
use Rattle.std.proofs.lemmas.Option.{same_Some}
use Rattle.std.specs.declared.cmp.Ordering.{Ordering}
use Rattle.std.specs.declared.cmp.Ordering.TheVariants.{Less, Equal, Greater}
use Rattle.wit_types.specs.Passed.wit_order-Order.{Has, AreDependenciesFirst}
use Rattle.wit_types.proofs.Passed.wit_order-Lists.{has_get, has_place, has_more, has_was, has_take_more}
use Rattle.wit_reach.specs.Paths.{AreRising}

pub has_append : (xs ys : List ℕ) (x : ℕ) → Has ys x → Has (xs ++ ys) x
has_append [] ys x h = h
has_append (z ∷ xs) ys x h = inr (has_append xs ys x h)

pub has_parts : (xs ys : List ℕ) (x : ℕ) → Has (xs ++ ys) x → Has xs x ⊎ Has ys x
has_parts [] ys x h = inr h
has_parts (z ∷ xs) ys x h =
    elim h as (λ _. Has (z ∷ xs) x ⊎ Has ys x) [
      | inl here ↦ inl (inl here)
      | inr later ↦ elim (has_parts xs ys x later) as (λ _. Has (z ∷ xs) x ⊎ Has ys x) [ inl a ↦ inl (inr a) | inr b ↦ inr b ]
    ]

pub reverse_cons : (y : ℕ) (xs : List ℕ) → reverse (y ∷ xs) ≡ reverse xs ++ y ∷ []
reverse_cons y xs = reverse-append (y ∷ []) xs

pub has_reverse : (xs : List ℕ) (x : ℕ) → Has xs x → Has (reverse xs) x
has_reverse [] x h = h
has_reverse (y ∷ xs) x h =
    subst (λ (r : List ℕ). Has r x) (sym (reverse_cons y xs)) (elim h as (λ _. Has (reverse xs ++ y ∷ []) x) [
      | inl here ↦ has_append (reverse xs) (y ∷ []) x (inl here)
      | inr later ↦ has_was (reverse xs) (y ∷ []) x (has_reverse xs x later)
    ])

pub has_reversed : (xs : List ℕ) (x : ℕ) → Has (reverse xs) x → Has xs x
has_reversed [] x h = h
has_reversed (y ∷ xs) x h =
    elim (has_more (reverse xs) y x (subst (λ (r : List ℕ). Has r x) (reverse_cons y xs) h)) as (λ _. Has (y ∷ xs) x) [ inl here ↦ inl here | inr was ↦ inr (has_reversed xs x was) ]

same_compare : (x k : ℕ) → is_eq (nat_cmp x k) ≡ true → x ≡ k
same_compare x k e =
    let r : MatchOrdering (nat_cmp x k) (x < k) (x ≡ k) (k < x) = ranked x k (nat_cmp x k) refl in
    by_cases (nat_cmp x k) r e
  where
    by_cases : (o : Ordering) → MatchOrdering o (x < k) (x ≡ k) (k < x) → is_eq o ≡ true → x ≡ k
    by_cases Less r e = absurd cc
    by_cases Equal r e = r
    by_cases Greater r e = absurd cc

compare_same : (x : ℕ) → is_eq (nat_cmp x x) ≡ true
compare_same x =
    let r : MatchOrdering (nat_cmp x x) (x < x) (x ≡ x) (x < x) = ranked x x (nat_cmp x x) refl in
    by_cases (nat_cmp x x) r
  where
    by_cases : (o : Ordering) → MatchOrdering o (x < x) (x ≡ x) (x < x) → is_eq o ≡ true
    by_cases Less r = absurd (omega arith)
    by_cases Equal r = refl
    by_cases Greater r = absurd (omega arith)

pub any_has : (ks : List ℕ) (x : ℕ) → list_any (is_at (nat_cmp x)) ks ≡ true → Has ks x
any_has [] x e = absurd cc
any_has (k ∷ ks) x e = by_cases (is_eq (nat_cmp x k)) refl e (any_has ks x)
  where
    by_cases : (b : Bool) → is_eq (nat_cmp x k) ≡ b → (b || list_any (is_at (nat_cmp x)) ks) ≡ true → (list_any (is_at (nat_cmp x)) ks ≡ true → Has ks x) → Has (k ∷ ks) x
    by_cases true same e rest = inl (same_compare x k same)
    by_cases false same e rest = inr (rest e)

pub has_any : (ks : List ℕ) (x : ℕ) → Has ks x → list_any (is_at (nat_cmp x)) ks ≡ true
has_any [] x h = absurd h
has_any (k ∷ ks) x h =
    elim h as (λ _. list_any (is_at (nat_cmp x)) (k ∷ ks) ≡ true) [
      | inl here ↦ ap (λ (b : Bool). b || list_any (is_at (nat_cmp x)) ks) (subst (λ (z : ℕ). is_eq (nat_cmp x z) ≡ true) here (compare_same x))
      | inr later ↦ or_true (is_eq (nat_cmp x k)) (list_any (is_at (nat_cmp x)) ks) (has_any ks x later)
    ]
  where
    or_true : (a b : Bool) → b ≡ true → (a || b) ≡ true
    or_true true b e = refl
    or_true false b e = e

nat_cmp_less : (p i : ℕ) → nat_cmp p i ≡ Less → p < i
nat_cmp_less p i e = subst (λ (o : Ordering). MatchOrdering o (p < i) (p ≡ i) (i < p)) e (ranked p i (nat_cmp p i) refl)

pub below_all : (i : ℕ) (ks : List ℕ) (x : ℕ) → All (λ q. IsLtBy nat_cmp q i) ks → Has ks x → x < i
below_all i ks x all h =
    let p = has_place ks x h in
    nat_cmp_less x i (subst (λ (z : ℕ). nat_cmp z i ≡ Less) p.2 (all p.0 0 p.1))

pub rising_append : (xs : List ℕ) (x : ℕ) → AreRising xs → ((y : ℕ) → Has xs y → y < x) → AreRising (xs ++ x ∷ [])
rising_append [] x r all = ((λ y h. absurd h), tt)
rising_append (z ∷ xs) x r all = (
  (λ y h. elim (has_more xs x y h) as (λ _. z < y) [ inl e ↦ subst (λ (w : ℕ). z < w) (sym e) (all z (inl refl)) | inr was ↦ r.0 y was ]),
  rising_append xs x r.1 (λ y h. all y (inr h)),
)

-- rising lists of the same members are one list
pub rising_one : (xs ys : List ℕ) → AreRising xs → AreRising ys → ((x : ℕ) → Has xs x → Has ys x) → ((x : ℕ) → Has ys x → Has xs x) → xs ≡ ys
rising_one [] [] rx ry to from = refl
rising_one [] (y ∷ ys) rx ry to from = absurd (from y (inl refl))
rising_one (x ∷ xs) [] rx ry to from = absurd (to x (inl refl))
rising_one (x ∷ xs) (y ∷ ys) rx ry to from =
    let e : x ≡ y = heads in
    let rest : xs ≡ ys = rising_one xs ys rx.1 ry.1
    (λ z h. elim (to z (inr h)) as (λ _. Has ys z) [ inl same ↦ absurd (let l : x < z = rx.0 z h in omega arith) | inr later ↦ later ])
    (λ z h. elim (from z (inr h)) as (λ _. Has xs z) [ inl same ↦ absurd (let l : y < z = ry.0 z h in omega arith) | inr later ↦ later ]) in
    cc
  where
    heads : x ≡ y
    heads = elim (to x (inl refl)) as (λ _. x ≡ y) [
      | inl same ↦ same
      | inr later ↦ elim (from y (inl refl)) as (λ _. x ≡ y) [
        | inl same ↦ sym same
        | inr after ↦ absurd (let a : y < x = ry.0 x later in let b : x < y = rx.0 y after in omega arith)
      ]
    ]

-- a rising list that holds what its members use, all earlier, has dependencies first
pub rising_first : (n : ℕ) (uses : ℕ → ℕ → Type 0) (before xs : List ℕ) → AreRising xs
    → ((y z : ℕ) → Has before y → Has xs z → y < z)
    → ((i j : ℕ) → Has xs i → uses i j → Has before j ⊎ Has xs j)
    → ((i j : ℕ) → uses i j → j < i)
    → AreDependenciesFirst n uses before xs
rising_first n uses before [] r apart closed back = tt
rising_first n uses before (x ∷ xs) r apart closed back = (
  (
    (λ h. let l : x < x = apart x x h (inl refl) in omega arith),
    λ j u. elim (closed x j (inl refl) u) as (λ _. Has before j) [
      | inl b ↦ b
      | inr later ↦ elim later as (λ _. Has before j) [
        | inl e ↦ absurd (let l : j < x = back x j u in omega arith)
        | inr h ↦ absurd (let l : j < x = back x j u in let m : x < j = r.0 j h in omega arith)
      ]
    ],
  ),
  rising_first n uses (x ∷ before) xs r.1
      (λ y z h k. elim h as (λ _. y < z) [ inl e ↦ subst (λ (w : ℕ). w < z) (sym e) (r.0 z k) | inr b ↦ apart y z b (inr k) ])
      (λ i j h u. elim (closed i j (inr h) u) as (λ _. Has (x ∷ before) j ⊎ Has xs j) [
        | inl b ↦ inl (inr b)
        | inr later ↦ elim later as (λ _. Has (x ∷ before) j ⊎ Has xs j) [ inl e ↦ inl (inl e) | inr k ↦ inr k ]
      ])
      back,
)

-- ---- what code reads at a place

item_at : (xs : List ℕ) (k r : ℕ) → k < length xs → r ≡ get_or xs k r → r ≡ get_or xs k 0
item_at xs k r l e = e ∙ get_or_default xs k r 0 l

pub item_has : (xs : List ℕ) (k r : ℕ) → k < length xs → r ≡ get_or xs k r → Has xs r
item_has xs k r l e = subst (Has xs) (sym (item_at xs k r l e)) (has_get xs k l)

pub item_more : (xs : List ℕ) (k r x : ℕ) → k < length xs → r ≡ get_or xs k r → Has (take (k + 1) xs) x → (x ≡ r) ⊎ Has (take k xs) x
item_more xs k r x l e h = elim (has_take_more xs k x l h) as (λ _. (x ≡ r) ⊎ Has (take k xs) x) [ inl here ↦ inl (here ∙ sym (item_at xs k r l e)) | inr was ↦ inr was ]

-- what stands before an item of a rising list is below it
pub rising_before : (xs : List ℕ) (k r y : ℕ) → AreRising xs → k < length xs → r ≡ get_or xs k r → Has (take k xs) y → y < r
rising_before [] k r y rising l e h = absurd (omega arith)
rising_before (x ∷ xs) zero r y rising l e h = absurd h
rising_before (x ∷ xs) (suc k) r y rising l e h =
    elim h as (λ _. y < r) [
      | inl here ↦ subst (λ (z : ℕ). z < r) (sym here) (rising.0 r (item_has xs k r (omega arith) e))
      | inr later ↦ rising_before xs k r y rising.1 (omega arith) e later
    ]

-- what gives no key is empty
pub none_left : (r : Option ℕ) (keys : List ℕ) → (IsSome r ↔ (0 < length keys)) → r ≡ None → keys ≡ []
none_left r [] v e = refl
none_left r (k ∷ keys) v e = absurd (let some = subst IsSome e (v.1 (omega arith)) in cc)

-- ---- what copies of a list's items come

-- the next is the first of what is left
pub copied_next : (Gone : Type 0) (x : Option (Bor ℕ)) (left rest : List ℕ) (i : ℕ)
    → MatchOption x Gone (λ y. left ≡ y.now ∷ rest) → Some i ≡ option_copied x → left ≡ i ∷ rest
copied_next Gone None left rest i m e = absurd cc
copied_next Gone (Some y) left rest i m e = m ∙ ap (λ (z : ℕ). z ∷ rest) (sym (same_Some i y.now e))

-- where none comes nothing is left
pub copied_none : (Same : Type 0) (Next : Bor ℕ → Type 0) (x : Option (Bor ℕ)) (left : List ℕ)
    → MatchOption x ((length left ≡ 0) × Same) Next → None ≡ option_copied x → left ≡ []
copied_none Same Next None [] m e = refl
copied_none Same Next None (y ∷ left) m e = absurd (let none : length (y ∷ left) ≡ 0 = m.0 in omega arith)
copied_none Same Next (Some y) left m e = absurd cc
