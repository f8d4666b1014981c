-- Members of lists of ids, and their places.
use Rattle.std.proofs.Common.{◌≡◌, ℕ, ◌<◌, ◌+◌, suc, zero, Bool, true, false, List, [], ◌∷◌, ◌++◌, inl, inr, Option, Some, None, refl, sym, subst, ap, ◌∙◌, arith, length, get_or, nat_eq, cond}
use Rattle.std.proofs.lemmas.Bool.{ne_eqb, eq-eqb, eqb-true, lt-ltb}
use Rattle.std.proofs.lemmas.List.Quantifiers.{position-Some}
use Rattle.std.proofs.lemmas.Option.{same_Some, slice_get_within}
use Rattle.std.specs.List.{position_or_len}
use Rattle.std.specs.Prelude.{slice_get, position, option_map, unwrap_or, not, nat_lt}
use Rattle.wit_arena.specs.Passed.wit_types-declared-interface-TypeDef.{TypeDef}
use Rattle.wit_arena.specs.Passed.wit_order-Order.{Has}
use Rattle.wit_arena.proofs.Passed.wit_order-Lists.{has_get}
use Rattle.wit_includes.proofs.Passed.wit_reach-Lists.{has_parts}
use Rattle.wit_includes.specs.Passed.wit_reach-Paths.{AreRising}
use Rattle.wit_includes.specs.Passed.wit_copies-Copies.{goes}
use Rattle.wit_includes.specs.Included.{copies_behind}

pub get_has : (xs : List ℕ) (k x : ℕ) → slice_get xs k ≡ Some x → Has xs x
get_has [] k x h = absurd cc
get_has (y ∷ xs) zero x h = inl (sym (same_Some y x h))
get_has (y ∷ xs) (suc k) x h = inr (get_has xs k x h)

pub has_place : (xs : List ℕ) (x : ℕ) → Has xs x → (k : ℕ) × (slice_get xs k ≡ Some x)
has_place [] x h = absurd h
has_place (y ∷ xs) x h =
    elim h as (λ _. (k : ℕ) × (slice_get (y ∷ xs) k ≡ Some x)) [
      | inl here ↦ (zero, ap (λ (z : ℕ). Some z) (sym here))
      | inr later ↦ (let r = has_place xs x later in (suc r.0, r.1))
    ]

pub get_there : {X : Type 0} (xs : List X) (i : ℕ) → i < length xs → (x : X) × (slice_get xs i ≡ Some x)
get_there [] i l = absurd (omega arith)
get_there (y ∷ xs) zero l = (y, refl)
get_there (y ∷ xs) (suc i) l = get_there xs i (omega arith)

-- what stands in a rising list below one that it has stands before it
pub stands_before : (xs ys : List ℕ) (y x : ℕ) → AreRising (xs ++ y ∷ ys) → Has (xs ++ y ∷ ys) x → x < y → Has xs x
stands_before xs ys y x rising h below =
    elim (has_parts xs (y ∷ ys) x h) as (λ _. Has xs x) [
      | inl first ↦ first
      | inr rest ↦ elim rest as (λ _. Has xs x) [
        | inl same ↦ absurd (omega (arith, same))
        | inr later ↦ absurd (let l : y < x = above xs rising later in omega arith)
      ]
    ]
  where
    above : (zs : List ℕ) → AreRising (zs ++ y ∷ ys) → Has ys x → y < x
    above [] r k = r.0 x k
    above (z ∷ zs) r k = above zs r.1 k

-- ---- where a member of a rising list is found

place_is : (xs : List ℕ) (k x : ℕ) → AreRising xs → slice_get xs k ≡ Some x → position_or_len (nat_eq x) xs ≡ k
place_is [] k x r h = absurd cc
place_is (y ∷ xs) zero x r h = (let e : nat_eq x y ≡ true = eq-eqb x y (sym (same_Some y x h)) in ap (λ (b : Bool). cond (not b) (1 + position_or_len (nat_eq x) xs) 0) e)
place_is (y ∷ xs) (suc k) x r h =
    let l : y < x = r.0 x (get_has xs k x h) in
    let e : nat_eq x y ≡ false = ne_eqb x y (λ s. absurd (omega (arith, s))) in
    ap (λ (b : Bool). cond (not b) (1 + position_or_len (nat_eq x) xs) 0) e ∙ (let rest = place_is xs k x r.1 h in let q : 1 + position_or_len (nat_eq x) xs ≡ suc k = omega (arith, rest) in q)

place_found : (xs : List ℕ) (k x : ℕ) → AreRising xs → slice_get xs k ≡ Some x → position (nat_eq x) xs ≡ Some k
place_found xs k x r h =
    subst (λ (n : ℕ). cond (nat_lt n (length xs)) (Some n) None ≡ Some k) (sym (place_is xs k x r h))
    (ap (λ (b : Bool). cond b (Some k) None) (lt-ltb k (length xs) (slice_get_within xs k x h)))

pub goes_own : (types : List TypeDef) (own : List ℕ) (k i : ℕ) → AreRising own → slice_get own k ≡ Some i → goes (copies_behind types own) i ≡ length types + k
goes_own types own k i r h = ap (λ (o : Option ℕ). unwrap_or (option_map (λ (n : ℕ). length types + n) o) i) (place_found own k i r h)

pub goes_else : (types : List TypeDef) (own : List ℕ) (i : ℕ) → (Has own i → ⊥) → goes (copies_behind types own) i ≡ i
goes_else types own i isnt = by (position (nat_eq i) own) refl
  where
    by : (o : Option ℕ) → position (nat_eq i) own ≡ o → unwrap_or (option_map (λ (n : ℕ). length types + n) o) i ≡ i
    by None e = refl
    by (Some k) e =
        let p = position-Some (nat_eq i) own k 0 e in
        absurd (isnt (subst (Has own) (sym (eqb-true i (get_or own k 0) p.1)) (has_get own k p.0)))
