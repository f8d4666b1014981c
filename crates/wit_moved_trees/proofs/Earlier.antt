-- Types that are moved are made of earlier ones.
use Rattle.std.proofs.Common.{◌≡◌, ℕ, ◌+◌, ◌<◌, Bool, true, false, List, [], ◌∷◌, ◌++◌, inl, inr, Option, Some, None, refl, sym, subst, ap, ◌∙◌, arith, length, take, length-append, append_assoc}
use Rattle.std.proofs.lemmas.List.{append-nil}
use Rattle.std.proofs.lemmas.Option.{same_Some}
use Rattle.std.specs.Prelude.{slice_get, unwrap_or}
use Rattle.wit_reach.specs.Passed.wit_types-declared-kind-TypeDefKind.{TypeDefKind}
use Rattle.wit_reach.specs.Passed.wit_types-declared-interface-TypeDef.{TypeDef}
use Rattle.wit_moves.specs.Passed.wit_features-Features.{FeatureSet}
use Rattle.wit_moves.specs.Moved.{Places, place_of, is_placed, is_kind_placed, to, IsMovedKind, IsMovedDef}
use Rattle.wit_moves.specs.Plan.{OwnerPlaces, moved_owner, type_stays, Plan, with_place, with_type, with_types, AreTypesPlaced, AreMovedDefs, no_defs, left_out, moved as moved_def}
use Rattle.wit_moves.specs.Passed.wit_order-Order.{Has}
use Rattle.wit_reach.specs.Ids.{kind_ids}
use Rattle.wit_reach.specs.Types.{AreTypesBackward}
use Rattle.wit_arena.proofs.Lists.{get_more}
use Rattle.wit_moved_trees.specs.There.{AreWithin, MovedTypesAreBackward}
use Rattle.wit_moved_trees.proofs.Parts.{IsMovedOf, id_from, kind_from, ArePlaced, id_placed, kind_placed}
use Rattle.wit_moved_trees.proofs.Moving.{either, placed_some, place_kept, place_more, plan_grows, plan_append, plan_length, take_front, get_here, pushed_is}

-- ---- ids

-- where what has a place is moved below a number, so is all that a definition is made of
module _ (places : Places) (f : ℕ → ℕ) (n : ℕ) (below : (i : ℕ) → is_placed places i ≡ true → f i < n) where
  pub moved_below : (ids : List ℕ) → ArePlaced places ids → (j : ℕ) → IsMovedOf f ids j → j < n
  moved_below ids all j (i, has, is) = subst (λ (k : ℕ). k < n) is (below i (all i has))

  pub id_below : (i j : ℕ) → is_placed places i ≡ true → Has (f i ∷ []) j → j < n
  id_below i j p h = moved_below (i ∷ []) (id_placed places i p) j (id_from f i j h)

  kind_below : (k l : TypeDefKind) (j : ℕ) → is_kind_placed places k ≡ true → IsMovedKind f k l → Has (kind_ids l) j → j < n
  kind_below k l j p m h = moved_below (kind_ids k) (kind_placed places k p) j (kind_from f k l j m h)

-- one more that is made of types before it
backward_more : (types : List TypeDef) (e : TypeDef) → AreTypesBackward types → ((j : ℕ) → Has (kind_ids e.kind) j → j < length types) → AreTypesBackward (types ++ e ∷ [])
backward_more types e before here i j (d, at, has) =
    elim (get_more types e d i at) as (λ _. j < i) [
      | inl was ↦ before i j (d, was, has)
      | inr last ↦ subst (λ (k : ℕ). j < k) (sym last.0) (here j (subst (λ (x : TypeDef). Has (kind_ids x.kind) j) last.1 has))
    ]

-- a type has a place exactly where it stays
pub placed_where_stays : (features : FeatureSet) (owners : OwnerPlaces) (others places : Places) (base : ℕ) (xs ys : List TypeDef) (d : TypeDef)
    → places ≡ (with_types features owners (record { places = others; next = base }) (xs ++ d ∷ ys)).places
    → is_placed places (length others + length xs) ≡ type_stays features owners (with_types features owners (record { places = others; next = base }) xs).places d
placed_where_stays features owners others places base xs ys d are =
    let plan : Plan = with_types features owners (record { places = others; next = base }) xs in
    let more = plan_grows features owners (with_type features owners plan d) ys in
    ap (λ (ps : Places). is_placed ps (length others + length xs)) (are ∙ ap (λ (p : Plan). p.places) (plan_append features owners (record { places = others; next = base }) xs (d ∷ ys)) ∙ more.1)
    ∙ ap (λ (n : ℕ). is_placed ((with_place (type_stays features owners plan.places d) plan).places ++ more.0) n) (sym (plan_length features owners (record { places = others; next = base }) xs))
    ∙ pushed_is (type_stays features owners plan.places d) plan more.0

-- ---- one more each time

module _ (features : FeatureSet) (owners : OwnerPlaces) (others places : Places) (graph own : List TypeDef) (graph_backward : AreTypesBackward graph) (others_within : AreWithin graph others)
    (placed : AreTypesPlaced features owners others (length graph) own places)
  where
    abbrev begun : Plan
    begun = record { places = others; next = length graph }

    abbrev plan : List TypeDef → Plan
    plan xs = with_types features owners begun xs

    -- what holds of those that were moved so far
    record SoFar (xs fs : List TypeDef) : Type 0 where
      next : (plan xs).next ≡ length graph + length fs
      within : AreWithin (graph ++ fs) (plan xs).places
      backward : AreTypesBackward (graph ++ fs)

    none_yet : SoFar [] []
    none_yet = record {
      next = omega arith;
      within = subst (λ (b : List TypeDef). AreWithin b others) (sym (append-nil graph)) others_within;
      backward = subst AreTypesBackward (sym (append-nil graph)) graph_backward;
    }

    module _ (xs ys fs : List TypeDef) (d : TypeDef) (split : xs ++ d ∷ ys ≡ own) (so_far : SoFar xs fs) where
      abbrev stays : Bool
      stays = type_stays features owners (plan xs).places d

      plan_next : plan (xs ++ d ∷ []) ≡ with_place stays (plan xs)
      plan_next = plan_append features owners begun xs (d ∷ [])

      whole_plan : places ≡ (with_types features owners (plan xs) (d ∷ ys)).places
      whole_plan = placed.are ∙ ap (λ (ds : List TypeDef). (plan ds).places) (sym split) ∙ ap (λ (p : Plan). p.places) (plan_append features owners begun xs (d ∷ ys))

      -- where all of them stand is where these do, and more
      first_places : (more : Places) × (places ≡ (plan xs).places ++ more)
      first_places = (let r = plan_grows features owners (plan xs) (d ∷ ys) in (r.0, whole_plan ∙ r.1))

      here : slice_get own (length xs) ≡ Some d
      here = subst (λ (ds : List TypeDef). slice_get ds (length xs) ≡ Some d) split (get_here xs ys d)

      front : take (length xs) own ≡ xs
      front = subst (λ (ds : List TypeDef). take (length xs) ds ≡ xs) split (take_front xs (d ∷ ys))

      stays_is : is_placed places (length others + length xs) ≡ stays
      stays_is = placed_where_stays features owners others places (length graph) xs ys d (placed.are ∙ ap (λ (ds : List TypeDef). (plan ds).places) (sym split))

      -- one that is left out
      leaves_out : is_placed places (length others + length xs) ≡ false → SoFar (xs ++ d ∷ []) fs
      leaves_out out =
          let now : plan (xs ++ d ∷ []) ≡ with_place false (plan xs) = plan_next ∙ ap (λ (b : Bool). with_place b (plan xs)) (sym stays_is ∙ out) in
          record {
            next = ap (λ (p : Plan). p.next) now ∙ so_far.next;
            within = λ i j p. elim (place_more (plan xs).places None i j (subst (λ (q : Plan). place_of q.places i ≡ Some j) now p)) as (λ _. j < length (graph ++ fs)) [
              | inl was ↦ so_far.within i j was
              | inr last ↦ absurd (let e : None ≡ Some j = last.1 in cc)
            ];
            backward = so_far.backward;
          }

      module _ (e : TypeDef) (there : is_placed places (length others + length xs) ≡ true) (is : IsMovedDef (to places) (moved_owner owners d.owner) d e) where
        yes : stays ≡ true
        yes = sym stays_is ∙ there

        -- all that it is made of stands somewhere
        kind_there : is_kind_placed (plan xs).places d.kind ≡ true
        kind_there =
            elim (either (is_kind_placed (plan xs).places d.kind)) as (λ _. is_kind_placed (plan xs).places d.kind ≡ true) [
              | inl is_there ↦ is_there
              | inr isnt ↦ absurd (placed.kept d.span (record {
                place = length xs;
                one = d;
                breaks = record {
                  there = here;
                  stays = subst (λ (ds : List TypeDef). type_stays features owners (plan ds).places d ≡ true) (sym front) yes;
                  unplaced = subst (λ (ds : List TypeDef). is_kind_placed (plan ds).places d.kind ≡ false) (sym front) isnt;
                };
                stands = refl;
              }))
            ]

        below : (i : ℕ) → is_placed (plan xs).places i ≡ true → to places i < length (graph ++ fs)
        below i p =
            let j = placed_some (place_of (plan xs).places i) p in
            let k : place_of places i ≡ Some j.0 = subst (λ (ps : Places). place_of ps i ≡ Some j.0) (sym first_places.1) (place_kept (plan xs).places first_places.0 i j.0 j.1) in
            subst (λ (n : ℕ). n < length (graph ++ fs)) (sym (ap (λ (o : Option ℕ). unwrap_or o i) k)) (so_far.within i j.0 j.1)

        -- one that stays
        moves : SoFar (xs ++ d ∷ []) (fs ++ e ∷ [])
        moves =
            let now : plan (xs ++ d ∷ []) ≡ with_place true (plan xs) = plan_next ∙ ap (λ (b : Bool). with_place b (plan xs)) yes in
            let last_length : length (fs ++ e ∷ []) ≡ length fs + 1 = length-append fs (e ∷ []) in
            let whole_length : length (graph ++ fs) ≡ length graph + length fs = length-append graph fs in
            let more_length : length (graph ++ (fs ++ e ∷ [])) ≡ length graph + length (fs ++ e ∷ []) = length-append graph (fs ++ e ∷ []) in
            let before = so_far.next in
            record {
              next = ap (λ (p : Plan). p.next) now ∙ (let r : (plan xs).next + 1 ≡ length graph + length (fs ++ e ∷ []) = omega (arith, last_length, before) in r);
              within = λ i j p. elim (place_more (plan xs).places (Some (plan xs).next) i j (subst (λ (q : Plan). place_of q.places i ≡ Some j) now p)) as (λ _. j < length (graph ++ (fs ++ e ∷ []))) [
                | inl was ↦ (let l : j < length (graph ++ fs) = so_far.within i j was in omega (arith, last_length, whole_length, more_length, l))
                | inr last ↦ (let same : (plan xs).next ≡ j = same_Some (plan xs).next j last.1 in omega (arith, last_length, whole_length, more_length, before, same))
              ];
              backward = subst AreTypesBackward (append_assoc graph fs (e ∷ []))
                  (backward_more (graph ++ fs) e so_far.backward (λ j h. kind_below (plan xs).places (to places) (length (graph ++ fs)) below d.kind e.kind j kind_there is.kind h));
            }

    all_so_far : (xs fs : List TypeDef) → AreMovedDefs owners places (length others) xs fs → (ys : List TypeDef) → xs ++ ys ≡ own → SoFar xs fs
    all_so_far _ _ no_defs ys split = none_yet
    all_so_far _ _ (left_out xs fs d m out) ys split = (let s = sym (append_assoc xs (d ∷ []) ys) ∙ split in leaves_out xs ys fs d s (all_so_far xs fs m (d ∷ ys) s) out)
    all_so_far _ _ (moved_def xs fs d e m there is) ys split = (let s = sym (append_assoc xs (d ∷ []) ys) ∙ split in moves xs ys fs d s (all_so_far xs fs m (d ∷ ys) s) e there is)

pub moved_types_backward : MovedTypesAreBackward
moved_types_backward features owners others places graph own fs graph_backward others_within placed m =
    let s = all_so_far features owners others places graph own graph_backward others_within placed own fs m [] (append-nil own) in
    (s.backward, λ i j p. s.within i j (subst (λ (ps : Places). place_of ps i ≡ Some j) placed.are p))
