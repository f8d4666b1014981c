-- The owners of a graph with those of a package that came to it.
use Rattle.std.proofs.Common.{◌≡◌, ◌<◌, ◌≤◌, ℕ, ◌+◌, zero, suc, Bool, true, false, List, [], ◌∷◌, ◌++◌, map, length, length-append, drop, Option, Some, None, bytes_eq, inl, inr, refl, sym, subst, ap, ◌∙◌, arith}
use Rattle.std.proofs.lemmas.Option.{same_Some}
use Rattle.std.proofs.lemmas.Bool.{cases_lt}
use Rattle.std.proofs.lemmas.Slice.Eq.{bytes_eq-Decides}
use Rattle.std.specs.Prelude.{String, if◌then◌else◌, slice_get}
use Rattle.std.specs.declared.alloc.Global.{Global}
use Rattle.indexmap.specs.IndexMap.{insert_entry, insert_all}
use Rattle.wit_order.specs.Order as order
use Rattle.wit_types.specs.declared.stability.Stability.{Stability}
use Rattle.wit_features.specs.Features.{FeatureSet, stays}
use Rattle.wit_moves.specs.Moved.{Places, place_of}
use Rattle.wit_moves.specs.Plan.{Plan, with_place}
use Rattle.wit_finding.specs.Own.{with_own, placed}
use Rattle.wit_graph.proofs.Passed.wit_placed-Own.{place_within, others_stay}
use Rattle.wit_arena.proofs.Lists.{get_kept}
use Rattle.wit_arena.specs.Tree.{Owner}
use Rattle.wit_graph.specs.Passed.wit_graph_worlds-Names.{Pair, by_bytes, AreNames}

-- ---- lists

module _ {X : Type 0} where
  pub behind : (xs ys : List X) (k : ℕ) → slice_get (xs ++ ys) (length xs + k) ≡ slice_get ys k
  behind [] ys k = ap (slice_get ys) (omega arith)
  behind (x ∷ xs) ys k = (let e : length (x ∷ xs) + k ≡ suc (length xs + k) = omega arith in ap (slice_get (x ∷ (xs ++ ys))) e ∙ behind xs ys k)

  pub dropped : (n : ℕ) (xs : List X) (k : ℕ) → slice_get (drop n xs) k ≡ slice_get xs (n + k)
  dropped zero xs k = ap (slice_get xs) (omega arith)
  dropped (suc n) [] k = refl
  dropped (suc n) (x ∷ xs) k = (let e : suc (n + k) ≡ suc n + k = omega arith in dropped n xs k ∙ ap (slice_get (x ∷ xs)) e)

  pub same_drop : {Y : Type 0} (n : ℕ) (xs : List X) (ys : List Y) → length xs ≡ length ys → length (drop n xs) ≡ length (drop n ys)
  same_drop zero xs ys e = e
  same_drop (suc n) [] [] e = refl
  same_drop (suc n) [] (y ∷ ys) e = absurd (omega (arith, e))
  same_drop (suc n) (x ∷ xs) [] e = absurd (omega (arith, e))
  same_drop (suc n) (x ∷ xs) (y ∷ ys) e = same_drop n xs ys (omega (arith, e))

-- ---- owners of what stays

place_last : (ps : Places) (q : Option ℕ) → place_of (ps ++ q ∷ []) (length ps) ≡ q
place_last [] q = refl
place_last (p ∷ ps) q = place_last ps q

pub rest : (n i : ℕ) → n ≤ i → (k : ℕ) × (i ≡ n + k)
rest zero i l = (i, omega arith)
rest (suc n) zero l = absurd (omega (arith, l))
rest (suc n) (suc i) l = (let r = rest n i (omega (arith, l)) in (r.0, (let e : i ≡ n + r.0 = r.1 in omega (arith, e))))

module _ {X : Type 0} (features : FeatureSet) (gate : X → Stability) where
  abbrev pub kept_owners : List X → List Owner → List Owner
  kept_owners [] os = []
  kept_owners (d ∷ ds) [] = []
  kept_owners (d ∷ ds) (o ∷ os) = if stays features (gate d) then o ∷ kept_owners ds os else kept_owners ds os

  -- the place of one of them, behind others
  pub record IsKeptAt (next : ℕ) (ds : List X) (os : List Owner) (k j : ℕ) : Type 0 where
    pub number : ℕ
    pub is : j ≡ next + number
    pub owner_is : slice_get (kept_owners ds os) number ≡ slice_get os k

  one_at : (b : Bool) (p : Plan) (d : X) (ds : List X) (o : Owner) (os : List Owner) (k j : ℕ) → stays features (gate d) ≡ b → place_of (with_own features (with_place b p) (map gate ds)).places (length p.places + k) ≡ Some j
      → ((i : ℕ) → place_of (with_own features (with_place b p) (map gate ds)).places (length (with_place b p).places + i) ≡ Some j → IsKeptAt (with_place b p).next ds os i j) → IsKeptAt p.next (d ∷ ds) (o ∷ os) k j
  one_at true p d ds o os zero j st h later =
      let here : place_of (p.places ++ Some p.next ∷ []) (length p.places + 0) ≡ Some j =
      others_stay features (p.places ++ Some p.next ∷ []) (p.next + 1) (map gate ds) (length p.places + 0) j (let e = length-append p.places (Some p.next ∷ []) in omega (arith, e)) h in
      let is : Some p.next ≡ Some j = sym (place_last p.places (Some p.next)) ∙ ap (place_of (p.places ++ Some p.next ∷ [])) (omega arith) ∙ here in
      let next : p.next ≡ j = same_Some p.next j is in
      record { number = 0; is = omega (arith, next); owner_is = ap (λ (b : Bool). slice_get (if b then o ∷ kept_owners ds os else kept_owners ds os) 0) st }
  one_at true p d ds o os (suc k) j st h later =
      let e = length-append p.places (Some p.next ∷ []) in
      let r = later k (ap (place_of (with_own features (with_place true p) (map gate ds)).places) (omega (arith, e)) ∙ h) in
      let n : j ≡ p.next + 1 + r.number = r.is in
      record { number = suc r.number; is = omega (arith, n); owner_is = ap (λ (b : Bool). slice_get (if b then o ∷ kept_owners ds os else kept_owners ds os) (suc r.number)) st ∙ r.owner_is }
  one_at false p d ds o os zero j st h later =
      let here : place_of (p.places ++ None ∷ []) (length p.places + 0) ≡ Some j =
      others_stay features (p.places ++ None ∷ []) p.next (map gate ds) (length p.places + 0) j (let e = length-append p.places (None ∷ []) in omega (arith, e)) h in
      let is : None ≡ Some j = sym (place_last p.places None) ∙ ap (place_of (p.places ++ None ∷ [])) (omega arith) ∙ here in
      absurd cc
  one_at false p d ds o os (suc k) j st h later =
      let e = length-append p.places (None ∷ []) in
      let r = later k (ap (place_of (with_own features (with_place false p) (map gate ds)).places) (omega (arith, e)) ∙ h) in
      record { number = r.number; is = r.is; owner_is = ap (λ (b : Bool). slice_get (if b then o ∷ kept_owners ds os else kept_owners ds os) r.number) st ∙ r.owner_is }

  pub kept_at : (p : Plan) (ds : List X) (os : List Owner) (k j : ℕ) → length os ≡ length ds → place_of (with_own features p (map gate ds)).places (length p.places + k) ≡ Some j → IsKeptAt p.next ds os k j
  kept_at p [] os k j so_many h = absurd (let l : length p.places + k < length p.places = place_within p.places (length p.places + k) j h in omega arith)
  kept_at p (d ∷ ds) [] k j so_many h = absurd (omega (arith, so_many))
  kept_at p (d ∷ ds) (o ∷ os) k j so_many h =
      one_at (stays features (gate d)) p d ds o os k j refl h (λ i g. kept_at (with_place (stays features (gate d)) p) ds os i j (omega (arith, so_many)) g)

  -- what has a place, of those that are asked for or of these
  pub owner_there : (others : Places) (base : ℕ) (ds : List X) (package_owners graph_owners : List Owner) → length graph_owners ≡ base → length (drop (length others) package_owners) ≡ length ds
      → ((i j : ℕ) → place_of others i ≡ Some j → (w : Owner) × (slice_get graph_owners j ≡ Some w) × (slice_get package_owners i ≡ Some w)) → (i j : ℕ) → place_of (placed features others base (map gate ds)) i ≡ Some j
      → slice_get (graph_owners ++ kept_owners ds (drop (length others) package_owners)) j ≡ slice_get package_owners i
  owner_there others base ds package_owners graph_owners sized so_many found i j at =
      elim (cases_lt i (length others)) as (λ _. slice_get (graph_owners ++ kept_owners ds (drop (length others) package_owners)) j ≡ slice_get package_owners i) [
        | inl less ↦
            let f = found i j (others_stay features others base (map gate ds) i j less at) in
            get_kept graph_owners (kept_owners ds (drop (length others) package_owners)) j f.0 f.1 ∙ sym f.2
        | inr more ↦
            let k = rest (length others) i more in
            let own : List Owner = drop (length others) package_owners in
            let r = kept_at (record { places = others; next = base }) ds own k.0 j so_many (subst (λ (n : ℕ). place_of (placed features others base (map gate ds)) n ≡ Some j) k.1 at) in
            let there : j ≡ base + r.number = r.is in
            let stands : j ≡ length graph_owners + r.number = omega (there, sized, arith) in
            ap (slice_get (graph_owners ++ kept_owners ds own)) stands ∙ behind graph_owners (kept_owners ds own) r.number ∙ r.owner_is ∙ dropped (length others) package_owners k.0 ∙ ap (slice_get package_owners) (sym k.1)
      ]

-- ---- tables by names

module _ (P : Pair → Type 0) where
  abbrev AreAllSo : List Pair → Type 0
  AreAllSo ps = (e : Pair) → order.Has ps e → P e

  insert_so : (es : List Pair) (k : List ℕ) (v : ℕ) → AreAllSo es → P (k, v) → AreAllSo (insert_entry bytes_eq es k v)
  insert_so [] k v so one e h = elim h as (λ _. P e) [ inl here ↦ subst P (sym here) one | inr later ↦ absurd later ]
  insert_so (x ∷ es) k v so one e h = by_cases (bytes_eq k x.0) refl h (insert_so es k v (λ q m. so q (inr m)) one e)
    where
      by_cases : (b : Bool) → bytes_eq k x.0 ≡ b → order.Has (if b then (x.0, v) ∷ es else x ∷ insert_entry bytes_eq es k v) e → (order.Has (insert_entry bytes_eq es k v) e → P e) → P e
      by_cases true t h later = elim h as (λ _. P e) [ inl here ↦ subst P (ap (λ (y : List ℕ). (y, v)) ((bytes_eq-Decides k x.0).0 t) ∙ sym here) one | inr was ↦ so e (inr was) ]
      by_cases false t h later = elim h as (λ _. P e) [ inl here ↦ so e (inl here) | inr new ↦ later new ]

  all_so : (es ps : List Pair) → AreAllSo es → AreAllSo ps → AreAllSo (insert_all bytes_eq es ps)
  all_so es [] so more = so
  all_so es (p ∷ ps) so more = all_so (insert_entry bytes_eq es p.0 p.1) ps (insert_so es p.0 p.1 so (more p (inl refl))) (λ q m. more q (inr m))

  pub table_so : (pairs : List Pair) (es : List (String Global × ℕ)) → AreNames pairs es → AreAllSo pairs → (e : String Global × ℕ) → order.Has (map by_bytes es) (by_bytes e) → P (by_bytes e)
  table_so pairs es named so e h = all_so [] pairs (λ q m. absurd m) so (by_bytes e) (subst (λ (ps : List Pair). order.Has ps (by_bytes e)) named h)
