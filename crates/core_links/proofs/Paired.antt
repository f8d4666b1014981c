-- Pairs, seen through the keys of a set.
use Rattle.std.proofs.Common.{◌≡◌, ℕ, zero, suc, ◌+◌, ◌<◌, ◌≤◌, Bool, true, false, not, cond, ◌&&◌, ◌||◌, ◌⊎◌, List, [], ◌∷◌, ◌++◌, map, take, length, Some, Bor, inl, inr, refl, sym, subst, ap, ◌∙◌, arith}
use Rattle.std.proofs.lemmas.List.{map-append, take_more}
use Rattle.std.proofs.lemmas.Slice.Eq.{bytes_eq-Decides}
use Rattle.std.proofs.lemmas.Option.{same_Some, slice_get-map, slice_get-get_or, slice_get_within, get_or_from_slice_get}
use Rattle.std.specs.Prelude.{bytes_eq, slice_get, get_or, option_map}
use Rattle.std.specs.List.{list_any}
use Rattle.wasm_types.specs.declared.entries.Import.{Import}
use Rattle.wasm_types.specs.Entries.{ImportValue, import_value}
use Rattle.wit_core_items.proofs.Growing.{below_or_at}
use Rattle.core_links.specs.Imports.{RepeatsPair}
use Rattle.core_links.specs.Pairs.{Pair, pair, pair_of, same_pair, is_new}

-- ---- keys

any_map : {X Y : Type 0} (test : Y → Bool) (f : X → Y) (xs : List X) → list_any test (map f xs) ≡ list_any (λ x. test (f x)) xs
any_map test f [] = refl
any_map test f (x ∷ xs) = ap (λ (b : Bool). test (f x) || b) (any_map test f xs)

not_true : (b : Bool) → not b ≡ true → b ≡ false
not_true true e = sym e
not_true false e = refl

abbrev Key : Type 0
Key = Bor (List ℕ) × Bor (List ℕ)

abbrev has_key : List Key → Pair → Bool
has_key keys p = list_any (λ (k : Key). same_pair p (pair k)) keys

pub is_new_from : (ps : List Pair) (keys : List Key) (p : Pair) (b : Bool) → map pair keys ≡ ps → b ≡ has_key keys p → not b ≡ is_new ps p
is_new_from ps keys p b view found = ap not (found ∙ sym (any_map (same_pair p) pair keys) ∙ ap (list_any (same_pair p)) view)

pub added_from : (ps : List Pair) (keys new : List Key) (k : Key) → map pair keys ≡ ps → is_new ps (pair k) ≡ true → new ≡ cond (has_key keys (pair k)) keys (keys ++ k ∷ []) → map pair new ≡ ps ++ pair k ∷ []
added_from ps keys new k view fresh inserted =
    let absent : has_key keys (pair k) ≡ false = sym (any_map (same_pair (pair k)) pair keys) ∙ ap (list_any (same_pair (pair k))) view ∙ not_true (list_any (same_pair (pair k)) ps) fresh in
    ap (map pair) (inserted ∙ ap (λ b. cond b keys (keys ++ k ∷ [])) absent) ∙ map-append pair keys (k ∷ []) ∙ ap (λ l. l ++ pair k ∷ []) view

-- ---- distinct pairs

and_true : (a b : Bool) → (a && b) ≡ true → (a ≡ true) × (b ≡ true)
and_true true b h = (refl, h)
and_true false b h = absurd cc

and_is : (a b : Bool) → a ≡ true → b ≡ true → (a && b) ≡ true
and_is a b e f = ap (λ x. x && b) e ∙ f

same_from : (p q : Pair) → p.0 ≡ q.0 → p.1 ≡ q.1 → same_pair p q ≡ true
same_from p q e f = and_is (bytes_eq p.0 q.0) (bytes_eq p.1 q.1) ((bytes_eq-Decides p.0 q.0).1 e) ((bytes_eq-Decides p.1 q.1).1 f)

or_cases : (a b : Bool) → (a || b) ≡ true → (a ≡ true) ⊎ (b ≡ true)
or_cases true b h = inl refl
or_cases false b h = inr h

or_right : (a b : Bool) → b ≡ true → (a || b) ≡ true
or_right true b h = refl
or_right false b h = h

-- one passes the test, and where one does the test of all says so
any_found : {X : Type 0} (test : X → Bool) (xs : List X) → list_any test xs ≡ true → (k : ℕ) × (x : X) × (slice_get xs k ≡ Some x) × (test x ≡ true)
any_found test [] h = absurd cc
any_found test (x ∷ xs) h = elim (or_cases (test x) (list_any test xs) h) [
  | inl here ↦ (zero, x, refl, here)
  | inr later ↦ (let r = any_found test xs later in (suc r.0, r.1, r.2, r.3))
]

found_any : {X : Type 0} (test : X → Bool) (xs : List X) (k : ℕ) (x : X) → slice_get xs k ≡ Some x → test x ≡ true → list_any test xs ≡ true
found_any test [] k x at h = absurd cc
found_any test (y ∷ xs) zero x at h = ap (λ b. b || list_any test xs) (ap test (same_Some y x at) ∙ h)
found_any test (y ∷ xs) (suc k) x at h = or_right (test y) (list_any test xs) (found_any test xs k x at h)

pub taken : {X : Type 0} (xs : List X) (n k : ℕ) (x : X) → k < n → slice_get xs k ≡ Some x → slice_get (take n xs) k ≡ Some x
taken [] n k x lt at = absurd cc
taken (y ∷ xs) zero k x lt at = absurd (omega (arith, lt))
taken (y ∷ xs) (suc n) zero x lt at = at
taken (y ∷ xs) (suc n) (suc k) x lt at = taken xs n k x (omega (arith, lt)) at

pub of_taken : {X : Type 0} (xs : List X) (n k : ℕ) (x : X) → slice_get (take n xs) k ≡ Some x → (k < n) × (slice_get xs k ≡ Some x)
of_taken xs zero k x at = absurd cc
of_taken [] (suc n) k x at = absurd cc
of_taken (y ∷ xs) (suc n) zero x at = (omega arith, at)
of_taken (y ∷ xs) (suc n) (suc k) x at = (let r = of_taken xs n k x at in (omega (arith, r.0), r.1))

abbrev pub pairs_before : List ImportValue → ℕ → List Pair
pairs_before is n = map pair_of (take n is)

-- each pair is new where it stands
abbrev pub AreNew : List ImportValue → ℕ → Type 0
AreNew is n = (k : ℕ) (i : ImportValue) → k < n → slice_get is k ≡ Some i → is_new (pairs_before is k) (pair_of i) ≡ true

none_repeats : (is : List ImportValue) → AreNew is (length is) → RepeatsPair is → ⊥
none_repeats is new r =
    let there : slice_get (pairs_before is r.second) r.first ≡ Some (pair_of r.one) =
    slice_get-map pair_of (take r.second is) r.first ∙ ap (option_map pair_of) (taken is r.second r.first r.one r.apart r.one_there) in
    let same = same_from (pair_of r.other) (pair_of r.one) (sym r.same_place) (sym r.same_name) in
    let any : list_any (same_pair (pair_of r.other)) (pairs_before is r.second) ≡ true = found_any (same_pair (pair_of r.other)) (pairs_before is r.second) r.first (pair_of r.one) there same in
    let fresh : not (list_any (same_pair (pair_of r.other)) (pairs_before is r.second)) ≡ true = new r.second r.other (slice_get_within is r.second r.other r.other_there) r.other_there in
    absurd (let f : list_any (same_pair (pair_of r.other)) (pairs_before is r.second) ≡ false = not_true (list_any (same_pair (pair_of r.other)) (pairs_before is r.second)) fresh in cc)

pub no_pair_repeats : (is : List ImportValue) (n : ℕ) → length is ≤ n → AreNew is n → RepeatsPair is → ⊥
no_pair_repeats is n e new = none_repeats is (λ k i lt at. new k i (omega (arith, lt, e)) at)

not_false : (b : Bool) → not b ≡ false → b ≡ true
not_false true e = refl
not_false false e = absurd cc

pub pair_repeats : (is : List ImportValue) (n : ℕ) (i : ImportValue) → slice_get is n ≡ Some i → is_new (pairs_before is n) (pair_of i) ≡ false → RepeatsPair is
pair_repeats is n i at old =
    let f = any_found (same_pair (pair_of i)) (pairs_before is n) (not_false (list_any (same_pair (pair_of i)) (pairs_before is n)) old) in
    let m = mapped_at pair_of (take n is) f.0 f.1 f.2 in
    let t = of_taken is n f.0 m.0 m.1 in
    let s = and_true (bytes_eq i.place f.1.0) (bytes_eq i.name f.1.1) f.3 in
    record {
      first = f.0;
      second = n;
      apart = t.0;
      one = m.0;
      other = i;
      one_there = t.1;
      other_there = at;
      same_place = ap (λ (p : Pair). p.0) m.2 ∙ sym ((bytes_eq-Decides i.place f.1.0).0 s.0);
      same_name = ap (λ (p : Pair). p.1) m.2 ∙ sym ((bytes_eq-Decides i.name f.1.1).0 s.1);
    }
  where
    mapped_at : {X Y : Type 0} (g : X → Y) (xs : List X) (k : ℕ) (y : Y) → slice_get (map g xs) k ≡ Some y → (x : X) × (slice_get xs k ≡ Some x) × (g x ≡ y)
    mapped_at g [] k y at = absurd cc
    mapped_at g (x ∷ xs) zero y at = (x, refl, same_Some (g x) y at)
    mapped_at g (x ∷ xs) (suc k) y at = mapped_at g xs k y at

pub new_more : (is : List ImportValue) (n : ℕ) (i : ImportValue) → slice_get is n ≡ Some i → is_new (pairs_before is n) (pair_of i) ≡ true → AreNew is n → AreNew is (n + 1)
new_more is n i at fresh new k j lt there = elim (below_or_at k n lt) as (λ _. is_new (pairs_before is k) (pair_of j) ≡ true) [
  | inl less ↦ new k j less there
  | inr e ↦
      let same : i ≡ j = same_Some i j (sym at ∙ ap (slice_get is) (sym e) ∙ there) in
      subst (λ (m : ℕ). is_new (pairs_before is m) (pair_of j) ≡ true) (sym e) (subst (λ (x : ImportValue). is_new (pairs_before is n) (pair_of x) ≡ true) same fresh)
]

-- ---- one import more

pub import_at : (xs : List Import) (n : ℕ) (d : Import) → n < length xs → slice_get (map import_value xs) n ≡ Some (import_value (get_or xs n d))
import_at xs n d lt = slice_get-map import_value xs n ∙ ap (option_map import_value) (slice_get-get_or xs n d lt)

pub take_next : (is : List ImportValue) (n : ℕ) (i : ImportValue) → slice_get is n ≡ Some i → take (n + 1) is ≡ take n is ++ i ∷ []
take_next is n i at = take_more is n i (slice_get_within is n i at) ∙ ap (λ (j : ImportValue). take n is ++ j ∷ []) (get_or_from_slice_get is n i i at)

pub pairs_next : (is : List ImportValue) (n : ℕ) (i : ImportValue) → slice_get is n ≡ Some i → pairs_before is n ++ pair_of i ∷ [] ≡ pairs_before is (n + 1)
pairs_next is n i at = sym (ap (map pair_of) (take_next is n i at) ∙ map-append pair_of (take n is) (i ∷ []))
