-- Rows of places, and the needs for which they stand.
use Rattle.std.proofs.Common.{◌≡◌, ℕ, ◌<◌, ◌≤◌, ◌+◌, zero, suc, List, [], ◌∷◌, ◌++◌, Result, ◌⊎◌, ◌↔◌, Option, Some, None, map, take, get_or, length, inl, inr, refl, sym, subst, ap, ◌∙◌, arith, true, false}
use Rattle.std.specs.Prelude.{◌==◌, slice_get, slice_index, Vec, IfOk}
use Rattle.std.specs.declared.alloc.Global.{Global}
use Rattle.std.proofs.lemmas.Bool.{eqb-true}
use Rattle.std.proofs.lemmas.List.{length-map, map_push}
use Rattle.std.proofs.lemmas.Option.{slice_get_cases, slice_get-get_or}
use Rattle.name_places.specs.FirstPlaces.{place_of}
use Rattle.name_places.proofs.Places.{place_within}
use Rattle.wit_words.specs.Slice.{Slice}
use Rattle.wit_order.specs.Order.{Has, IsOnCircle, IsLeastOrder}
use Rattle.wit_order.specs.Places.{Rows, row, Needs, AreBelow, IsCircle, IsSorted}
use Rattle.wit_order.proofs.Lists.{has_get, row_past}
use Rattle.wit_order.proofs.Orders.{least_same, leads_same}
use Rattle.wit_rules.specs.declared.fault.PackageRule.TheVariants.{Cycle}
use Rattle.wit_rules.specs.declared.fault.PackageFault.{PackageFault}
use Rattle.wit_rules.specs.declared.fault.PackageFault.TheVariants.{Broken}
use Rattle.wit_rules.specs.Breaks.{IsKept, IsFaultOf}
use Rattle.wit_rules.proofs.Places.{taken}
use Rattle.wit_type_names.specs.Passed.wit_scopes-Members.{MemberTree}
use Rattle.wit_orders.specs.Needs.{Name, Entry, labels, NeedsIn, CircleBreaks, IsOrderOf, AreAt}
use Rattle.wit_orders.specs.Rows.{some_place, places_in, row_of, AreRows}

-- ---- the places of names

-- what stands in front, where there is a place
has_some : (o : Option ℕ) (ps : List ℕ) (j : ℕ) → Has (some_place o ++ ps) j → (o ≡ Some j) ⊎ Has ps j
has_some None ps j h = inr h
has_some (Some p) ps j h = elim h as (λ _. (Some p ≡ Some j) ⊎ Has ps j) [ inl here ↦ inl (ap Some (sym here)) | inr later ↦ inr later ]

some_has : (o : Option ℕ) (ps : List ℕ) (j : ℕ) → (o ≡ Some j) ⊎ Has ps j → Has (some_place o ++ ps) j
some_has None ps j h = elim h as (λ _. Has ps j) [ inl here ↦ absurd cc | inr later ↦ later ]
some_has (Some p) ps j h = elim h as (λ _. Has (p ∷ ps) j) [ inl here ↦ inl (let same : j ≡ p = cc in same) | inr later ↦ inr later ]

-- a place is that of one of the names
has_place : (names : List Name) (needs : List Slice) (j : ℕ) → Has (places_in names needs) j → (n : Slice) × Has needs n × (place_of n.text names ≡ Some j)
has_place names [] j h = absurd h
has_place names (x ∷ xs) j h =
    elim (has_some (place_of x.text names) (places_in names xs) j h) as (λ _. (n : Slice) × Has (x ∷ xs) n × (place_of n.text names ≡ Some j)) [
      | inl here ↦ (x, inl refl, here)
      | inr later ↦ let r = has_place names xs j later in (r.0, inr r.1, r.2)
    ]

-- the place of each name is there
place_there : (names : List Name) (needs : List Slice) (n : Slice) (j : ℕ) → Has needs n → place_of n.text names ≡ Some j → Has (places_in names needs) j
place_there names [] n j h e = absurd h
place_there names (x ∷ xs) n j h e =
    some_has (place_of x.text names) (places_in names xs) j
    (elim h as (λ _. (place_of x.text names ≡ Some j) ⊎ Has (places_in names xs) j) [
      | inl here ↦ inl (subst (λ (y : Slice). place_of y.text names ≡ Some j) here e)
      | inr later ↦ inr (place_there names xs n j later e)
    ])

-- ---- rows

-- the row at the place of an entry
row_is : (names : List Name) (es : List Entry) (rows : Rows) (i : ℕ) (e : Entry)
    → map (λ r. r.items) rows ≡ map (row_of names) es → slice_get es i ≡ Some e → row rows i ≡ row_of names e
row_is names [] rows i e h at = absurd cc
row_is names (x ∷ es) [] i e h at = absurd cc
row_is names (x ∷ es) (r ∷ rows) zero e h at =
    let same : x ≡ e = cc in
    let first : r.items ≡ row_of names x = cc in
    first ∙ ap (row_of names) same
row_is names (x ∷ es) (r ∷ rows) (suc i) e h at =
    let rest : map (λ r. r.items) rows ≡ map (row_of names) es = cc in
    row_is names es rows i e rest at

module _ (es : List Entry) (rows : Rows) (are : AreRows es rows) where
  rows_size : length rows ≡ length es
  rows_size = sym (length-map rows (λ r. r.items)) ∙ ap length are ∙ length-map es (row_of (labels es))

  -- what a row has, its entry needs
  need_of : (i j : ℕ) → Needs rows i j → NeedsIn es i j
  need_of i j need =
      let past : i < length rows = row_past rows i j need in
      let size : length rows ≡ length es = rows_size in
      elim (slice_get_cases es i).1 as (λ _. NeedsIn es i j) [
        | inl at ↦
            let r = has_place (labels es) at.0.needs j (subst (λ (ps : List ℕ). Has ps j) (row_is (labels es) es rows i at.0 are at.2) need) in
            record { one = at.0; there = at.2; name = r.0; named = r.1; place = r.2 }
        | inr behind ↦ let short : length es ≤ i = behind.0 in absurd (omega arith)
      ]

  -- and back
  of_need : (i j : ℕ) → NeedsIn es i j → Needs rows i j
  of_need i j need =
      subst (λ (ps : List ℕ). Has ps j) (sym (row_is (labels es) es rows i need.one are need.there)) (place_there (labels es) need.one.needs need.name j need.named need.place)

  -- the rows' needs are those of the entries
  pub needs_same : (i j : ℕ) → Needs rows i j ↔ NeedsIn es i j
  needs_same i j = (need_of i j, of_need i j)

  pub rows_below : AreBelow rows (length rows)
  rows_below i j need =
      let placed : j < length (labels es) = (let n = need_of i j need in place_within n.name.text (labels es) j n.place) in
      let named : length (labels es) ≡ length es = length-map es (λ e. e.label.text) in
      let size : length rows ≡ length es = rows_size in
      omega arith

  pub order_is : (order : List ℕ) → IsSorted rows order → IsOrderOf es order
  order_is order s = subst (λ (n : ℕ). IsLeastOrder n (NeedsIn es) order) rows_size (least_same (length rows) (Needs rows) (NeedsIn es) needs_same order s.least)

  pub no_circle_breaks : (order : List ℕ) → IsSorted rows order → IsKept (CircleBreaks es)
  no_circle_breaks order s rule at b =
      s.no_circle b.place (b.circle.0, leads_same (length es) (NeedsIn es) (Needs rows) of_need b.place b.circle.0 b.place b.circle.1)

  pub circle_within : (i k : ℕ) → IsCircle rows i k → i < length es
  circle_within i k circle =
      let past : i < length rows = row_past rows i (slice_index (row rows i) k) (has_get (row rows i) k circle.need) in
      let size : length rows ≡ length es = rows_size in
      omega arith

  -- what leads back to its place is a circle of the entries
  circle_is : (i k : ℕ) → IsCircle rows i k → IsOnCircle (length es) (NeedsIn es) i
  circle_is i k circle =
      let to : ℕ = slice_index (row rows i) k in
      let first : NeedsIn es i to = need_of i to (has_get (row rows i) k circle.need) in
      elim circle.back as (λ _. IsOnCircle (length es) (NeedsIn es) i) [
        | inl same ↦ ([], subst (λ (z : ℕ). NeedsIn es i z) same first)
        | inr path ↦ (to ∷ path.0, (first, leads_same (length rows) (Needs rows) (NeedsIn es) need_of to path.0 i path.1))
      ]

  -- it is a break at the name of its entry
  pub circle_breaks : (i k : ℕ) → IsCircle rows i k → (one : Entry) → slice_get es i ≡ Some one
      → (fault : PackageFault) → fault ≡ Broken Cycle one.label.span → IsFaultOf (CircleBreaks es) fault
  circle_breaks i k circle one there fault is =
      subst (IsFaultOf (CircleBreaks es)) (sym is) (record { rule_is = refl; place = i; one = one; there = there; circle = circle_is i k circle; stands = refl })

-- what an order says, where there is one
abbrev pub IsOrdered : List Entry → Result (Vec ℕ Global) PackageFault → Type 0
IsOrdered es r = IfOk r (λ o. IsOrderOf es o.items × IsKept (CircleBreaks es))

-- the members at the first places, and at one more
pub at_more : (ms : List MemberTree) (places : List ℕ) (i : ℕ) (found : List MemberTree) (m : MemberTree) → i < length places → AreAt ms (take i places) found → slice_get ms (get_or places i 0) ≡ Some m
    → AreAt ms (take (i + 1) places) (found ++ m ∷ [])
at_more ms places i found m within are there =
    ap (map (slice_get ms)) (taken places i (get_or places i 0) (slice_get-get_or places i 0 within)) ∙ map_push (slice_get ms) (take i places) (get_or places i 0)
    ∙ ap (λ (os : List (Option MemberTree)). os ++ slice_get ms (get_or places i 0) ∷ []) are ∙ ap (λ (o : Option MemberTree). map (λ (n : MemberTree). Some n) found ++ o ∷ []) there
    ∙ sym (map_push (λ (n : MemberTree). Some n) found m)

-- a list without an element, and one with
pub none_of : {X Y : Type 0} (f : X → Y) (xs : List X) → length xs == 0 ≡ true → map f xs ≡ []
none_of f [] e = refl
none_of f (x ∷ xs) e = absurd (let none : length (x ∷ xs) ≡ 0 = eqb-true (length (x ∷ xs)) 0 e in omega (arith, none))

pub some_of : {X Y : Type 0} (f : X → Y) (xs : List X) → length xs == 0 ≡ false → map f xs ≡ [] → ⊥
some_of f [] e h = cc
some_of f (x ∷ xs) e h = cc
