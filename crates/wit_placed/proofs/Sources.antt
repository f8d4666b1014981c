-- Where the types come from that stand in a graph.
use Rattle.std.proofs.Common.{◌≡◌, ℕ, ◌+◌, Bool, true, false, ◌&&◌, List, [], ◌∷◌, ◌++◌, ◌⊎◌, inl, inr, Option, Some, None, String, refl, sym, subst, ap, ◌∙◌, arith, length, take, length-append, append_assoc}
use Rattle.std.proofs.lemmas.Bool.{and_parts}
use Rattle.std.proofs.lemmas.List.{append-nil}
use Rattle.std.proofs.lemmas.Option.{same_Some}
use Rattle.std.specs.Prelude.{slice_get, is_some}
use Rattle.std.specs.declared.alloc.Global.{Global}
use Rattle.wit_plans.specs.Passed.wit_types-declared-interface-TypeDef.{TypeDef}
use Rattle.wit_plans.specs.Passed.wit_types-declared-interface-TypeOwner.{TypeOwner}
use Rattle.wit_plans.specs.Passed.wit_types-declared-interface-TypeOwner-TheVariants as belongs
use Rattle.wit_plans.specs.Passed.wit_features-Features.{FeatureSet, stays as gate_stays}
use Rattle.wit_moved_trees.specs.Passed.wit_moves-Moved.{Places, place_of, flat, is_placed, is_kind_placed, to, IsMovedDef}
use Rattle.wit_moved_trees.specs.Passed.wit_moves-Plan.{OwnerPlaces, is_owner_placed, moved_owner, named_stays, type_stays, Plan, with_place, with_types, AreTypesPlaced, AreMovedDefs, no_defs, left_out, moved as moved_def}
use Rattle.wit_moved_trees.specs.Passed.wit_reach-Deps.{interface_of}
use Rattle.wit_moved_trees.specs.Passed.wit_reach-Ids.{kind_ids}
use Rattle.wit_moved_trees.proofs.Parts.{ArePlaced, kind_placed}
use Rattle.wit_moved_trees.proofs.Passed.wit_arena-Lists.{get_kept, get_last, get_more}
use Rattle.wit_moved_trees.proofs.Moving.{either, placed_some, place_kept, place_more, plan_grows, plan_append, plan_length, take_front, get_here}
use Rattle.wit_moved_trees.proofs.Earlier.{placed_where_stays}
use Rattle.wit_placed.specs.Order.{AreNamelessFree}

-- what belongs to an interface belongs to one that stands somewhere
pub owner_stands : (owners : OwnerPlaces) (o : TypeOwner) (j : ℕ) → is_owner_placed owners o ≡ true → interface_of (moved_owner owners o) ≡ Some j → (i : ℕ) × (o ≡ belongs.Interface i) × (place_of owners.interfaces i ≡ Some j)
owner_stands owners (belongs.Interface i) j p e =
    let s = placed_some (place_of owners.interfaces i) p in
    let same : s.0 ≡ j = same_Some s.0 j (let q = s.1 in cc) in
    (i, refl, subst (λ (k : ℕ). place_of owners.interfaces i ≡ Some k) same s.1)
owner_stands owners (belongs.World w) j p e = absurd cc
owner_stands owners belongs.None j p e = absurd cc

-- a place that is put last
pub put_last : (p : Plan) → place_of (with_place true p).places (length p.places) ≡ Some p.next
put_last p = ap flat (get_last p.places (Some p.next))

module _ (features : FeatureSet) (owners : OwnerPlaces) (others places : Places) (graph own : List TypeDef) (nameless : AreNamelessFree own)
    (placed : AreTypesPlaced features owners others (length graph) own places)
  where
    abbrev begun : Plan
    begun = record { places = others; next = length graph }

    abbrev plan : List TypeDef → Plan
    plan xs = with_types features owners begun xs

    -- a type of the package's own, and what it is there
    pub record IsFrom (xs fs : List TypeDef) (i j : ℕ) : Type 0 where
      pub place : ℕ
      pub old : TypeDef
      pub new : TypeDef
      pub index : i ≡ length others + place
      pub was : slice_get xs place ≡ Some old
      pub is : slice_get (graph ++ fs) j ≡ Some new
      pub moved : IsMovedDef (to places) (moved_owner owners old.owner) old new
      pub owned : is_owner_placed owners old.owner ≡ true
      pub parts : ArePlaced places (kind_ids old.kind)

    -- what the one that goes there was
    pub record IsWas (xs : List TypeDef) (stands : Places) (i : ℕ) (new : TypeDef) : Type 0 where
      pub place : ℕ
      pub old : TypeDef
      pub was : slice_get xs place ≡ Some old
      pub goes : place_of stands (length others + place) ≡ Some (length graph + i)
      pub moved : IsMovedDef (to places) (moved_owner owners old.owner) old new
      pub owned : is_owner_placed owners old.owner ≡ true

    pub record AreSources (xs fs : List TypeDef) (stands : Places) : Type 0 where
      pub sources : (i j : ℕ) → place_of stands i ≡ Some j → (place_of others i ≡ Some j) ⊎ IsFrom xs fs i j
      pub were : (i : ℕ) (d : TypeDef) → slice_get fs i ≡ Some d → IsWas xs stands i d

    record SoFar (xs fs : List TypeDef) : Type 0 where
      next : (plan xs).next ≡ length graph + length fs
      are : AreSources xs fs (plan xs).places

    none_yet : SoFar [] []
    none_yet = record {
      next = omega arith;
      are = record { sources = λ i j p. inl p; were = λ i d g. absurd cc };
    }

    -- one more of the package's own, whether it stays or not
    more_from : (xs fs es : List TypeDef) (d : TypeDef) (i j : ℕ) → (place_of others i ≡ Some j) ⊎ IsFrom xs fs i j → (place_of others i ≡ Some j) ⊎ IsFrom (xs ++ d ∷ []) (fs ++ es) i j
    more_from xs fs es d i j s =
        elim s as (λ _. (place_of others i ≡ Some j) ⊎ IsFrom (xs ++ d ∷ []) (fs ++ es) i j) [
          | inl l ↦ inl l
          | inr f ↦ inr (record {
            place = f.place;
            old = f.old;
            new = f.new;
            index = f.index;
            was = get_kept xs (d ∷ []) f.place f.old f.was;
            is = subst (λ (b : List TypeDef). slice_get b j ≡ Some f.new) (append_assoc graph fs es) (get_kept (graph ++ fs) es j f.new f.is);
            moved = f.moved;
            owned = f.owned;
            parts = f.parts;
          })
        ]

    more_was : (xs : List TypeDef) (stands more : Places) (d : TypeDef) (i : ℕ) (e : TypeDef) → IsWas xs stands i e → IsWas (xs ++ d ∷ []) (stands ++ more) i e
    more_was xs stands more d i e w = record {
      place = w.place;
      old = w.old;
      was = get_kept xs (d ∷ []) w.place w.old w.was;
      goes = place_kept stands more (length others + w.place) (length graph + i) w.goes;
      moved = w.moved;
      owned = w.owned;
    }

    module _ (xs ys fs : List TypeDef) (d : TypeDef) (split : xs ++ d ∷ ys ≡ own) (so_far : SoFar xs fs) where
      abbrev stays : Bool
      stays = type_stays features owners (plan xs).places d

      plan_next : plan (xs ++ d ∷ []) ≡ with_place stays (plan xs)
      plan_next = plan_append features owners begun xs (d ∷ [])

      first_places : (more : Places) × (places ≡ (plan xs).places ++ more)
      first_places =
          let r = plan_grows features owners (plan xs) (d ∷ ys) in
          (r.0, placed.are ∙ ap (λ (ds : List TypeDef). (plan ds).places) (sym split) ∙ ap (λ (p : Plan). p.places) (plan_append features owners begun xs (d ∷ ys)) ∙ r.1)

      here : slice_get own (length xs) ≡ Some d
      here = subst (λ (ds : List TypeDef). slice_get ds (length xs) ≡ Some d) split (get_here xs ys d)

      front : take (length xs) own ≡ xs
      front = subst (λ (ds : List TypeDef). take (length xs) ds ≡ xs) split (take_front xs (d ∷ ys))

      stays_is : is_placed places (length others + length xs) ≡ stays
      stays_is = placed_where_stays features owners others places (length graph) xs ys d (placed.are ∙ ap (λ (ds : List TypeDef). (plan ds).places) (sym split))

      leaves_out : is_placed places (length others + length xs) ≡ false → SoFar (xs ++ d ∷ []) fs
      leaves_out out =
          let now : plan (xs ++ d ∷ []) ≡ with_place false (plan xs) = plan_next ∙ ap (λ (b : Bool). with_place b (plan xs)) (sym stays_is ∙ out) in
          record {
            next = ap (λ (p : Plan). p.next) now ∙ so_far.next;
            are = record {
              sources = λ i j p. elim (place_more (plan xs).places None i j (subst (λ (q : Plan). place_of q.places i ≡ Some j) now p)) as (λ _. (place_of others i ≡ Some j) ⊎ IsFrom (xs ++ d ∷ []) fs i j) [
                | inl was ↦ subst (λ (gs : List TypeDef). (place_of others i ≡ Some j) ⊎ IsFrom (xs ++ d ∷ []) gs i j) (append-nil fs) (more_from xs fs [] d i j (so_far.are.sources i j was))
                | inr last ↦ absurd (let e : None ≡ Some j = last.1 in cc)
              ];
              were = λ i e at. subst (λ (q : Plan). IsWas (xs ++ d ∷ []) q.places i e) (sym now) (more_was xs (plan xs).places (None ∷ []) d i e (so_far.are.were i e at));
            };
          }

      module _ (e : TypeDef) (there : is_placed places (length others + length xs) ≡ true) (is : IsMovedDef (to places) (moved_owner owners d.owner) d e) where
        it_stays : stays ≡ true
        it_stays = sym stays_is ∙ there

        kind_there : is_kind_placed (plan xs).places d.kind ≡ true
        kind_there =
            elim (either (is_kind_placed (plan xs).places d.kind)) as (λ _. is_kind_placed (plan xs).places d.kind ≡ true) [
              | inl is_there ↦ is_there
              | inr isnt ↦ absurd (placed.kept d.span (record {
                place = length xs;
                one = d;
                breaks = record {
                  there = here;
                  stays = subst (λ (ds : List TypeDef). type_stays features owners (plan ds).places d ≡ true) (sym front) it_stays;
                  unplaced = subst (λ (ds : List TypeDef). is_kind_placed (plan ds).places d.kind ≡ false) (sym front) isnt;
                };
                stands = refl;
              }))
            ]

        parts : ArePlaced places (kind_ids d.kind)
        parts u h =
            let s = placed_some (place_of (plan xs).places u) (kind_placed (plan xs).places d.kind kind_there u h) in
            let k : place_of places u ≡ Some s.0 = subst (λ (ps : Places). place_of ps u ≡ Some s.0) (sym first_places.1) (place_kept (plan xs).places first_places.0 u s.0 s.1) in
            ap is_some k

        owner_there : is_owner_placed owners d.owner ≡ true
        owner_there = by_name d.name refl
          where
            by_name : (n : Option (String Global)) → d.name ≡ n → is_owner_placed owners d.owner ≡ true
            by_name None e = ap (is_owner_placed owners) (nameless (length xs) d here e)
            by_name (Some x) e =
                let s : (gate_stays features d.stability && is_owner_placed owners d.owner) ≡ true = sym (ap (named_stays features owners (plan xs).places d) e) ∙ it_stays in
                (and_parts (gate_stays features d.stability) (is_owner_placed owners d.owner) s).1

        -- it stands there
        last_from : (i j : ℕ) → i ≡ length (plan xs).places → (plan xs).next ≡ j → length (plan xs).places ≡ length others + length xs → IsFrom (xs ++ d ∷ []) (fs ++ e ∷ []) i j
        last_from i j at is_next long = record {
          place = length xs;
          old = d;
          new = e;
          index = at ∙ long;
          was = get_last xs d;
          is = subst (λ (b : List TypeDef). slice_get b j ≡ Some e) (append_assoc graph fs (e ∷ []))
              (subst (λ (k : ℕ). slice_get ((graph ++ fs) ++ e ∷ []) k ≡ Some e) (length-append graph fs ∙ sym so_far.next ∙ is_next) (get_last (graph ++ fs) e));
          moved = is;
          owned = owner_there;
          parts = parts;
        }

        moves : length (plan xs).places ≡ length others + length xs → SoFar (xs ++ d ∷ []) (fs ++ e ∷ [])
        moves long =
            let now : plan (xs ++ d ∷ []) ≡ with_place true (plan xs) = plan_next ∙ ap (λ (b : Bool). with_place b (plan xs)) it_stays in
            let last_length : length (fs ++ e ∷ []) ≡ length fs + 1 = length-append fs (e ∷ []) in
            let before = so_far.next in
            record {
              next = ap (λ (p : Plan). p.next) now ∙ (let r : (plan xs).next + 1 ≡ length graph + length (fs ++ e ∷ []) = omega (arith, last_length, before) in r);
              are = record {
                sources = λ i j p. elim (place_more (plan xs).places (Some (plan xs).next) i j (subst (λ (q : Plan). place_of q.places i ≡ Some j) now p)) as (λ _. (place_of others i ≡ Some j) ⊎ IsFrom (xs ++ d ∷ []) (fs ++ e ∷ []) i j) [
                  | inl was ↦ more_from xs fs (e ∷ []) d i j (so_far.are.sources i j was)
                  | inr last ↦ inr (last_from i j last.0 (same_Some (plan xs).next j last.1) long)
                ];
                were = λ i g at. subst (λ (q : Plan). IsWas (xs ++ d ∷ []) q.places i g) (sym now) (elim (get_more fs e g i at) as (λ _. IsWas (xs ++ d ∷ []) (with_place true (plan xs)).places i g) [
                  | inl was ↦ more_was xs (plan xs).places (Some (plan xs).next ∷ []) d i g (so_far.are.were i g was)
                  | inr last ↦ record {
                    place = length xs;
                    old = d;
                    was = get_last xs d;
                    goes = subst (λ (k : ℕ). place_of (with_place true (plan xs)).places k ≡ Some (length graph + i)) long
                        (put_last (plan xs) ∙ ap (λ (k : ℕ). Some k) (so_far.next ∙ ap (λ (k : ℕ). length graph + k) (sym last.0)));
                    moved = subst (IsMovedDef (to places) (moved_owner owners d.owner) d) (sym last.1) is;
                    owned = owner_there;
                  }
                ]);
              };
            }

    all_so_far : (xs fs : List TypeDef) → AreMovedDefs owners places (length others) xs fs → (ys : List TypeDef) → xs ++ ys ≡ own → SoFar xs fs
    all_so_far _ _ no_defs ys split = none_yet
    all_so_far _ _ (left_out xs fs d m out) ys split = (let s = sym (append_assoc xs (d ∷ []) ys) ∙ split in leaves_out xs ys fs d s (all_so_far xs fs m (d ∷ ys) s) out)
    all_so_far _ _ (moved_def xs fs d e m there is) ys split =
        (let s = sym (append_assoc xs (d ∷ []) ys) ∙ split in moves xs ys fs d s (all_so_far xs fs m (d ∷ ys) s) e there is (plan_length features owners begun xs))

    -- each place is one of the graph's, or that of a type of the package's own
    pub all_sources : (fs : List TypeDef) → AreMovedDefs owners places (length others) own fs → AreSources own fs places
    all_sources fs m =
        let s = (all_so_far own fs m [] (append-nil own)).are in
        record {
          sources = λ i j p. s.sources i j (subst (λ (ps : Places). place_of ps i ≡ Some j) placed.are p);
          were = λ i d at. subst (λ (ps : Places). IsWas own ps i d) (sym placed.are) (s.were i d at);
        }
