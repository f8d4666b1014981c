-- Rows of places, and the packages for which they stand.
use Rattle.std.proofs.Common.{◌≡◌, ℕ, ◌<◌, ◌≤◌, ◌+◌, zero, suc, Bool, List, [], ◌∷◌, ◌++◌, ◌⊎◌, ◌↔◌, Option, Some, None, length, inl, inr, refl, sym, subst, ap, ◌∙◌, arith, drop, add-one, append_assoc}
use Rattle.std.specs.Prelude.{slice_get, slice_index, IfSome}
use Rattle.std.specs.List.{All}
use Rattle.std.specs.Map.{lookup}
use Rattle.std.proofs.lemmas.List.{length-map}
use Rattle.std.proofs.lemmas.Map.Entries.{All-lookup}
use Rattle.std.proofs.lemmas.Option.{slice_get_cases, same_Some}
use Rattle.wit_words.specs.declared.source_map.Span.{Span}
use Rattle.wit_types.specs.declared.«package».PackageName.{PackageName}
use Rattle.wit_types.specs.declared.«package».UnresolvedPackage.{UnresolvedPackage}
use Rattle.wit_order.specs.Order.{Has, Leads, IsLeastOrder}
use Rattle.wit_order.specs.Places.{Rows, row, Needs, AreBelow, IsCircle, IsSorted}
use Rattle.wit_order.proofs.Lists.{has_get, row_past}
use Rattle.wit_order.proofs.Orders.{least_same, leads_same}
use Rattle.wit_package_order.specs.Packages.{named_from, named, asked, DependsOn, ClosesCircle, ComesTwice, IsOrder}
use Rattle.wit_package_order.specs.Rows.{some_place, places_in, AreRows, IsAskedAt, IsOrdered}

-- ---- what is left of a list

pub left_here : {X : Type 0} (xs : List X) (k : ℕ) (x : X) (rest : List X) → drop k xs ≡ x ∷ rest → slice_get xs k ≡ Some x
left_here [] zero x rest e = absurd cc
left_here [] (suc k) x rest e = absurd cc
left_here (y ∷ xs) zero x rest e = cc
left_here (y ∷ xs) (suc k) x rest e = left_here xs k x rest e

pub left_next : {X : Type 0} (xs : List X) (k n : ℕ) (x : X) (rest : List X) → n ≡ k + 1 → drop k xs ≡ x ∷ rest → rest ≡ drop n xs
left_next xs k n x rest next e = rw (next, add-one) (after xs k e)
  where
    after : (ys : List _) (i : ℕ) → drop i ys ≡ x ∷ rest → rest ≡ drop (suc i) ys
    after [] zero e = absurd cc
    after [] (suc i) e = absurd cc
    after (y ∷ ys) zero e = cc
    after (y ∷ ys) (suc i) e = after ys i e

pub has_there : {X : Type 0} (xs : List X) (k : ℕ) (x : X) → slice_get xs k ≡ Some x → Has xs x
has_there [] k x e = absurd cc
has_there (y ∷ xs) zero x e = inl (sym (same_Some y x e))
has_there (y ∷ xs) (suc k) x e = inr (has_there xs k x e)

-- ---- the places of names

has_some : (o : Option ℕ) (ps : List ℕ) (j : ℕ) → Has (some_place o ++ ps) j → (o ≡ Some j) ⊎ Has ps j
has_some None ps j h = inr h
has_some (Some p) ps j h = elim h as (λ _. (Some p ≡ Some j) ⊎ Has ps j) [ inl here ↦ inl (ap Some (sym here)) | inr later ↦ inr later ]

some_has : (o : Option ℕ) (ps : List ℕ) (j : ℕ) → (o ≡ Some j) ⊎ Has ps j → Has (some_place o ++ ps) j
some_has None ps j h = elim h as (λ _. Has ps j) [ inl here ↦ absurd cc | inr later ↦ later ]
some_has (Some p) ps j h = elim h as (λ _. Has (p ∷ ps) j) [ inl here ↦ inl (let same : j ≡ p = cc in same) | inr later ↦ inr later ]

all_within : (n m : ℕ) (ps : List UnresolvedPackage) → n + length ps ≤ m → All (λ (e : PackageName × ℕ). e.1 < m) (named_from n ps)
all_within n m [] l k d within = absurd (omega (arith, within))
all_within n m (p ∷ ps) l zero d within = omega (arith, l)
all_within n m (p ∷ ps) l (suc k) d within = all_within (suc n) m ps (omega (arith, l)) k d (omega (arith, within))

-- what is found is one of them
pub place_within : (test : PackageName → Bool) (ps : List UnresolvedPackage) (j : ℕ) → lookup test (named ps) ≡ Some j → j < length ps
place_within test ps j e = subst (λ (o : Option ℕ). IfSome o (λ (i : ℕ). i < length ps)) e (All-lookup (λ (i : ℕ). i < length ps) test (named ps) (all_within 0 (length ps) ps (omega arith)))

module _ (eq : PackageName → PackageName → Bool) (names : List (PackageName × ℕ)) where
  -- a place is that of one of the names
  asked_at : (asks : List PackageName) (j : ℕ) → Has (places_in eq names asks) j → (k : ℕ) × (n : PackageName) × (slice_get asks k ≡ Some n) × (lookup (eq n) names ≡ Some j)
  asked_at [] j h = absurd h
  asked_at (x ∷ xs) j h =
      elim (has_some (lookup (eq x) names) (places_in eq names xs) j h) as (λ _. (k : ℕ) × (n : PackageName) × (slice_get (x ∷ xs) k ≡ Some n) × (lookup (eq n) names ≡ Some j)) [
        | inl here ↦ (0, x, refl, here)
        | inr later ↦ let r = asked_at xs j later in (suc r.0, r.1, r.2, r.3)
      ]

  -- the place of each name is there
  place_there : (asks : List PackageName) (k : ℕ) (n : PackageName) (j : ℕ) → slice_get asks k ≡ Some n → lookup (eq n) names ≡ Some j → Has (places_in eq names asks) j
  place_there [] k n j at e = absurd cc
  place_there (x ∷ xs) zero n j at e = some_has (lookup (eq x) names) (places_in eq names xs) j (inl (ap (λ (y : PackageName). lookup (eq y) names) (same_Some x n at) ∙ e))
  place_there (x ∷ xs) (suc k) n j at e = some_has (lookup (eq x) names) (places_in eq names xs) j (inr (place_there xs k n j at e))

  -- one that isn't at this place stands later
  pub later_asked : (x : PackageName) (asks rest : List PackageName) (j : ℕ) → asks ≡ x ∷ rest → (lookup (eq x) names ≡ Some j → ⊥) → Has (places_in eq names asks) j → Has (places_in eq names rest) j
  later_asked x asks rest j e other h =
      elim (has_some (lookup (eq x) names) (places_in eq names rest) j (subst (λ (ns : List PackageName). Has (places_in eq names ns) j) e h)) as (λ _. Has (places_in eq names rest) j) [
        | inl here ↦ absurd (other here)
        | inr later ↦ later
      ]

  pub none_asked : (asks : List PackageName) (j : ℕ) → asks ≡ [] → Has (places_in eq names asks) j → ⊥
  none_asked asks j e h = subst (λ (ns : List PackageName). Has (places_in eq names ns) j) e h

  -- a place more, and none more
  pub one_found : (asks rest : List PackageName) (x : PackageName) (row new : List ℕ) (i : ℕ) → asks ≡ x ∷ rest → Some i ≡ lookup (eq x) names → new ≡ row ++ i ∷ [] → new ++ places_in eq names rest ≡ row ++ places_in eq names asks
  one_found asks rest x row new i e found grown =
      ap (λ (r : List ℕ). r ++ places_in eq names rest) grown ∙ append_assoc row (i ∷ []) (places_in eq names rest)
      ∙ ap (λ (o : Option ℕ). row ++ (some_place o ++ places_in eq names rest)) found ∙ ap (λ (ns : List PackageName). row ++ places_in eq names ns) (sym e)

  pub none_found : (asks rest : List PackageName) (x : PackageName) (row : List ℕ) → asks ≡ x ∷ rest → None ≡ lookup (eq x) names → row ++ places_in eq names rest ≡ row ++ places_in eq names asks
  none_found asks rest x row e found = ap (λ (o : Option ℕ). row ++ (some_place o ++ places_in eq names rest)) found ∙ ap (λ (ns : List PackageName). row ++ places_in eq names ns) (sym e)

  row_is : (qs : List UnresolvedPackage) (rows : Rows) (i : ℕ) (q : UnresolvedPackage) → AreRows eq names qs rows → slice_get qs i ≡ Some q → row rows i ≡ places_in eq names (asked q)
  row_is [] rows i q h at = absurd cc
  row_is (x ∷ qs) [] i q h at = absurd cc
  row_is (x ∷ qs) (r ∷ rows) zero q h at =
      let same : x ≡ q = cc in
      let first : r.items ≡ places_in eq names (asked x) = cc in
      first ∙ ap (λ (y : UnresolvedPackage). places_in eq names (asked y)) same
  row_is (x ∷ qs) (r ∷ rows) (suc i) q h at =
      let rest : AreRows eq names qs rows = cc in
      row_is qs rows i q rest at

-- ---- rows

module _ (eq : PackageName → PackageName → Bool) (ps : List UnresolvedPackage) (rows : Rows) (are : AreRows eq (named ps) ps rows) where
  rows_size : length rows ≡ length ps
  rows_size = sym (length-map rows (λ r. r.items)) ∙ ap length are ∙ length-map ps (λ (p : UnresolvedPackage). places_in eq (named ps) (asked p))

  -- on what a row has its package depends
  need_of : (i j : ℕ) → Needs rows i j → DependsOn eq ps i j
  need_of i j need =
      let past : i < length rows = row_past rows i j need in
      let size : length rows ≡ length ps = rows_size in
      elim (slice_get_cases ps i).1 as (λ _. DependsOn eq ps i j) [
        | inl at ↦
            let r = asked_at eq (named ps) (asked at.0) j (subst (λ (qs : List ℕ). Has qs j) (row_is eq (named ps) ps rows i at.0 are at.2) need) in
            (r.0, record { one = at.0; there = at.2; name = r.1; asked_for = r.2; found = r.3 })
        | inr behind ↦ let short : length ps ≤ i = behind.0 in absurd (omega arith)
      ]

  -- and back
  of_need : (i j : ℕ) → DependsOn eq ps i j → Needs rows i j
  of_need i j (k, need) =
      subst (λ (qs : List ℕ). Has qs j) (sym (row_is eq (named ps) ps rows i need.one are need.there)) (place_there eq (named ps) (asked need.one) k need.name j need.asked_for need.found)

  needs_same : (i j : ℕ) → Needs rows i j ↔ DependsOn eq ps i j
  needs_same i j = (need_of i j, of_need i j)

  pub rows_below : AreBelow rows (length rows)
  rows_below i j need =
      let n = need_of i j need in
      let placed : j < length ps = place_within (eq n.1.name) ps j n.1.found in
      let size : length rows ≡ length ps = rows_size in
      omega arith

  order_is : (order : List ℕ) → IsSorted rows order → IsOrder eq ps order
  order_is order s = subst (λ (n : ℕ). IsLeastOrder n (DependsOn eq ps) order) rows_size (least_same (length rows) (Needs rows) (DependsOn eq ps) needs_same order s.least)

  no_circle : (order : List ℕ) → IsSorted rows order → (at : Span) → ClosesCircle eq ps at → ⊥
  no_circle order s at b =
      let first : Needs rows b.from b.to = of_need b.from b.to (b.place, b.asks) in
      elim b.back as (λ _. ⊥) [
        | inl same ↦ s.no_circle b.from ([], subst (Needs rows b.from) same first)
        | inr path ↦ s.no_circle b.from (b.to ∷ path.0, (first, leads_same (length ps) (DependsOn eq ps) (Needs rows) of_need b.to path.0 b.from path.1))
      ]

  pub is_ordered : (order : List ℕ) → IsSorted rows order → ((at : Span) → ComesTwice eq ps at → ⊥) → IsOrdered eq ps order
  is_ordered order s distinct = record { distinct = distinct; no_circle = no_circle order s; is_order = order_is order s }

  pub circle_within : (i k : ℕ) → IsCircle rows i k → (i < length rows) × (i < length ps)
  circle_within i k circle =
      let past : i < length rows = row_past rows i (slice_index (row rows i) k) (has_get (row rows i) k circle.need) in
      let size : length rows ≡ length ps = rows_size in
      (past, omega arith)

  pub circle_asked : (i k : ℕ) → IsCircle rows i k → (one : UnresolvedPackage) → slice_get ps i ≡ Some one → Has (places_in eq (named ps) (asked one)) (slice_index (row rows i) k)
  circle_asked i k circle one there = subst (λ (qs : List ℕ). Has qs (slice_index (row rows i) k)) (row_is eq (named ps) ps rows i one are there) (has_get (row rows i) k circle.need)

  -- where one asks for the next of a circle
  pub circle_closes : (i k : ℕ) → IsCircle rows i k → (one : UnresolvedPackage) → slice_get ps i ≡ Some one → (at : Span) → IsAskedAt eq (named ps) one (slice_index (row rows i) k) at → ClosesCircle eq ps at
  circle_closes i k circle one there at asked_there = record {
    from = i;
    place = asked_there.place;
    to = slice_index (row rows i) k;
    asks = record { one = one; there = there; name = asked_there.name; asked_for = asked_there.asked_for; found = asked_there.found };
    back =
        elim circle.back as (λ _. (slice_index (row rows i) k ≡ i) ⊎ ((via : List ℕ) × Leads (length ps) (DependsOn eq ps) (slice_index (row rows i) k) via i)) [
          | inl same ↦ inl same
          | inr path ↦
              inr (path.0, subst (λ (n : ℕ). Leads n (DependsOn eq ps) (slice_index (row rows i) k) path.0 i) rows_size (leads_same (length rows) (Needs rows) (DependsOn eq ps) need_of (slice_index (row rows i) k) path.0 i path.1))
        ];
    stands = asked_there.stands;
  }
