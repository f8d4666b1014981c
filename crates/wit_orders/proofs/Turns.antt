-- Types of which each names earlier ones alone stand in their order.
use Rattle.std.proofs.Common.{◌≡◌, ℕ, ◌<◌, ◌+◌, suc, List, [], ◌∷◌, take, true, false, ◌&&◌, Option, Some, None, is_some, map, length, inl, inr, refl, sym, subst, ap, ◌∙◌, arith}
use Rattle.std.specs.Prelude.{slice_get}
use Rattle.std.specs.List.{range_with_len}
use Rattle.std.proofs.lemmas.List.{length-map}
use Rattle.std.proofs.lemmas.Option.{same_Some}
use Rattle.name_places.specs.FirstPlaces.{place_of}
use Rattle.name_places.proofs.Places.{place_in_front}
use Rattle.wit_words.specs.Slice.{Slice}
use Rattle.wit_order.specs.Order.{Has}
use Rattle.wit_order.proofs.InTurn.{in_turn_least, no_way_back}
use Rattle.wit_rules.specs.Breaks.{IsKept}
use Rattle.wit_type_names.specs.Passed.wit_scopes-Members.{MemberTree}
use Rattle.wit_orders.specs.Needs.{Name, Entry, labels, NeedsIn, CircleBreaks, AreAt, AreSorted, type_entry}
use Rattle.wit_orders.specs.Rows.{are_among, AreBehindNeeds}

-- what stands at the places in turn
at_turn : {X : Type 0} (xs : List X) (get : ℕ → Option X) (k : ℕ) → ((i : ℕ) → get (k + i) ≡ slice_get xs i) → map get (range_with_len k (length xs)) ≡ map (λ x. Some x) xs
at_turn [] get k at = refl
at_turn {X} (x ∷ xs) get k at =
    let first : get k ≡ Some x = ap get (let e : k ≡ k + 0 = omega arith in e) ∙ at 0 in
    let rest : map get (range_with_len (k + 1) (length xs)) ≡ map (λ x. Some x) xs = at_turn xs get (k + 1) (λ i. ap get (let e : k + 1 + i ≡ k + suc i = omega arith in e) ∙ at (suc i)) in
    ap (λ (o : Option X). o ∷ map get (range_with_len (k + 1) (length xs))) first ∙ ap (λ (os : List (Option X)). Some x ∷ os) rest

-- each of names that are among those has a place there
among_placed : (names : List Name) (needs : List Slice) (x : Slice) → are_among names needs ≡ true → Has needs x → (p : ℕ) × (place_of x.text names ≡ Some p)
among_placed names [] x all h = absurd h
among_placed names (n ∷ ns) x all h = by (λ rest later. among_placed names ns x rest later) (place_of n.text names) refl
  where
    by : (are_among names ns ≡ true → Has ns x → (p : ℕ) × (place_of x.text names ≡ Some p)) → (o : Option ℕ) → place_of n.text names ≡ o → (p : ℕ) × (place_of x.text names ≡ Some p)
    by behind None e = absurd (let none : are_among names (n ∷ ns) ≡ false = ap (λ (o : Option ℕ). is_some o && are_among names ns) e in cc)
    by behind (Some q) e =
        let rest : are_among names ns ≡ true = sym (ap (λ (o : Option ℕ). is_some o && are_among names ns) e) ∙ all in
        elim h as (λ _. (p : ℕ) × (place_of x.text names ≡ Some p)) [ inl here ↦ (q, ap (λ (y : Slice). place_of y.text names) here ∙ e) | inr later ↦ behind rest later ]

-- they name earlier ones alone, so that the least order is that in which they stand
pub sorted_in_turn : (ms : List MemberTree) → AreBehindNeeds (map type_entry ms) → AreSorted ms ms × IsKept (CircleBreaks (map type_entry ms))
sorted_in_turn ms behind =
    let es : List Entry = map type_entry ms in
    let earlier : (i j : ℕ) → NeedsIn es i j → j < i =
    λ i j need.
    let front = among_placed (take i (labels es)) need.one.needs need.name (behind i need.one need.there) need.named in
    let there = place_in_front need.name.text (labels es) i front.0 front.1 in
    let same : front.0 ≡ j = same_Some front.0 j (sym there.0 ∙ need.place) in
    subst (λ (k : ℕ). k < i) same there.1 in
    let order : List ℕ = range_with_len 0 (length es) in
    let at : AreAt ms order ms = ap (λ (n : ℕ). map (slice_get ms) (range_with_len 0 n)) (length-map ms type_entry) ∙ at_turn ms (slice_get ms) 0 (λ i. ap (slice_get ms) (let e : 0 + i ≡ i = omega arith in e)) in
    ((order, in_turn_least (length es) (NeedsIn es) earlier, at), λ rule place b. no_way_back (length es) (NeedsIn es) earlier b.place b.circle)
