-- Types that are moved, one behind the other.
use Rattle.std.proofs.Common.{◌≡◌, ℕ, ◌+◌, suc, zero, Bool, true, false, List, [], ◌∷◌, ◌++◌, ◌⊎◌, inl, inr, Option, Some, None, refl, sym, subst, ap, ◌∙◌, arith, length, take, length-append, append_assoc, map}
use Rattle.std.proofs.lemmas.Bool.{and_parts}
use Rattle.std.proofs.lemmas.List.{append-nil}
use Rattle.std.proofs.lemmas.Option.{same_Some}
use Rattle.std.specs.List.{list_all}
use Rattle.std.specs.Prelude.{slice_get, String, is_some, unwrap_or, string_bytes}
use Rattle.std.specs.declared.alloc.Global.{Global}
use Rattle.wit_reach.specs.Passed.wit_types-declared-kind-Type-TheVariants as ref
use Rattle.wit_reach.specs.Passed.wit_types-declared-kind-TypeDefKind.{TypeDefKind}
use Rattle.wit_reach.specs.Passed.wit_types-declared-function-Param.{Param}
use Rattle.wit_reach.specs.Passed.wit_types-declared-interface-TypeDef.{TypeDef}
use Rattle.wit_reach.specs.Passed.wit_types-declared-interface-TypeOwner.{TypeOwner}
use Rattle.wit_moves.specs.Passed.wit_features-Features.{FeatureSet, stays as item_stays}
use Rattle.wit_moves.specs.Moved.{Places, place_of, is_placed, is_ref_placed, is_part_placed, to, is_kind_placed, IsMovedKind, IsMovedDef, flat}
use Rattle.wit_moves.specs.Plan.{OwnerPlaces, is_owner_placed, moved_owner, named_stays, type_stays, Plan, with_place, with_type, with_types, AreTypesPlaced, AreMovedDefs, no_defs, left_out, moved}
use Rattle.wit_moves.specs.Interfaces.{AreMovedNames, no_entries, one_goes, one_stays}
use Rattle.wit_arena.specs.Tree.{Name, Owner, Tree}
use Rattle.wit_arena.specs.Unfold.{flat as flat_tree, Owners, and_then, ref_tree, part_tree, part_trees, named_kind_tree, nameless_tree, owner_of, def_tree_of, def_tree, trees, IsWhole}
use Rattle.wit_arena.specs.Standing.{HasTree}
use Rattle.wit_arena.specs.Meaning.{Has}
use Rattle.wit_arena.proofs.Lists.{get_kept, get_last, has_none, has_here, has_later, has_cases}
use Rattle.wit_arena.proofs.Unfolding.{ref_kept, added, def_at, whole_more, kept_then}
use Rattle.wit_moved_trees.specs.Law.{StandForTheSame, MovedTypesStandForTheSame, MovedNamesStandForTheSame, MovedFunctionsStandForTheSame}
use Rattle.wit_moved_trees.proofs.Following.{named_follows, nameless_follows, param_names, params_follow, part_follows}

-- ---- places

pub either : (b : Bool) → (b ≡ true) ⊎ (b ≡ false)
either true = inl refl
either false = inr refl

pub placed_some : (o : Option ℕ) → is_some o ≡ true → (j : ℕ) × (o ≡ Some j)
placed_some None h = absurd cc
placed_some (Some j) h = (j, refl)

flat_is : (o : Option (Option ℕ)) (j : ℕ) → flat o ≡ Some j → o ≡ Some (Some j)
flat_is None j h = absurd cc
flat_is (Some p) j h = ap (λ (q : Option ℕ). Some q) h

-- what has a place has it with more behind
pub place_kept : (places more : Places) (i j : ℕ) → place_of places i ≡ Some j → place_of (places ++ more) i ≡ Some j
place_kept places more i j h = ap flat (get_kept places more i (Some j) (flat_is (slice_get places i) j h))

-- a place among these and one more
pub place_more : (places : Places) (o : Option ℕ) (i j : ℕ) → place_of (places ++ o ∷ []) i ≡ Some j → (place_of places i ≡ Some j) ⊎ ((i ≡ length places) × (o ≡ Some j))
place_more [] o zero j h = inr (refl, h)
place_more [] o (suc i) j h = absurd cc
place_more (p ∷ places) o zero j h = inl h
place_more (p ∷ places) o (suc i) j h =
    elim (place_more places o i j h) as (λ _. (place_of (p ∷ places) (suc i) ≡ Some j) ⊎ ((suc i ≡ length (p ∷ places)) × (o ≡ Some j))) [
      | inl was ↦ inl was
      | inr last ↦ inr ((let e : i ≡ length places = last.0 in omega arith), last.1)
    ]

module _ (features : FeatureSet) (owners : OwnerPlaces) where
  -- a plan goes on behind what it has
  pub plan_grows : (p : Plan) (ds : List TypeDef) → (more : Places) × ((with_types features owners p ds).places ≡ p.places ++ more)
  plan_grows p [] = ([], sym (append-nil p.places))
  plan_grows p (d ∷ ds) = by (type_stays features owners p.places d) (λ q. plan_grows q ds)
    where
      by : (b : Bool) → ((q : Plan) → (more : Places) × ((with_types features owners q ds).places ≡ q.places ++ more)) → (more : Places) × ((with_types features owners (with_place b p) ds).places ≡ p.places ++ more)
      by true go = (let r = go (with_place true p) in (Some p.next ∷ r.0, r.1 ∙ append_assoc p.places (Some p.next ∷ []) r.0))
      by false go = (let r = go (with_place false p) in (None ∷ r.0, r.1 ∙ append_assoc p.places (None ∷ []) r.0))

  pub plan_append : (p : Plan) (xs ys : List TypeDef) → with_types features owners p (xs ++ ys) ≡ with_types features owners (with_types features owners p xs) ys
  plan_append p [] ys = refl
  plan_append p (x ∷ xs) ys = plan_append (with_type features owners p x) xs ys

  -- each type has one place more, or none
  pub plan_length : (p : Plan) (ds : List TypeDef) → length (with_types features owners p ds).places ≡ length p.places + length ds
  plan_length p [] = omega arith
  plan_length p (d ∷ ds) = by (type_stays features owners p.places d) (λ q. plan_length q ds)
    where
      by : (b : Bool) → ((q : Plan) → length (with_types features owners q ds).places ≡ length q.places + length ds) → length (with_types features owners (with_place b p) ds).places ≡ length p.places + length (d ∷ ds)
      by true go = (let r = go (with_place true p) in let l = length-append p.places (Some p.next ∷ []) in omega (arith, r, l))
      by false go = (let r = go (with_place false p) in let l = length-append p.places (None ∷ []) in omega (arith, r, l))

pub take_front : (xs ys : List TypeDef) → take (length xs) (xs ++ ys) ≡ xs
take_front [] [] = refl
take_front [] (y ∷ ys) = refl
take_front (x ∷ xs) ys = ap (λ (zs : List TypeDef). x ∷ zs) (take_front xs ys)

pub get_here : (xs ys : List TypeDef) (d : TypeDef) → slice_get (xs ++ d ∷ ys) (length xs) ≡ Some d
get_here [] ys d = refl
get_here (x ∷ xs) ys d = get_here xs ys d

get_behind : (us xs : List TypeDef) (k : ℕ) → slice_get (us ++ xs) (length us + k) ≡ slice_get xs k
get_behind [] xs k = ap (slice_get xs) (omega arith)
get_behind (u ∷ us) xs k = (let e : length (u ∷ us) + k ≡ suc (length us + k) = omega arith in ap (slice_get (u ∷ (us ++ xs))) e ∙ get_behind us xs k)

-- ---- a definition

module _ (given : Owner → Name → Tree) (package_owners graph_owners : Owners) (owners : OwnerPlaces) (so_far places : Places) (done there : List (Option Tree))
    (follows : (i : ℕ) (t : Tree) → is_placed so_far i ≡ true → flat_tree (slice_get done i) ≡ Some t → flat_tree (slice_get there (to places i)) ≡ Some t)
  where
    -- of the same name, belonging to the same
    by_name : (n : Option (String Global)) (o q : TypeOwner) (k l : TypeDefKind) (t : Tree) → is_kind_placed so_far k ≡ true → IsMovedKind (to places) k l → q ≡ moved_owner owners o
        → ((x : String Global) → n ≡ Some x → owner_of graph_owners (moved_owner owners o) ≡ owner_of package_owners o) → def_tree_of package_owners given done n o k ≡ Some t → def_tree_of graph_owners given there n q l ≡ Some t
    by_name None o q k l t p m e same h =
        let r = nameless_follows so_far (to places) done there follows o k l t p m h in
        subst (λ (z : TypeOwner). nameless_tree there z l ≡ Some t) (sym (e ∙ ap (moved_owner owners) r.0)) r.1
    by_name (Some x) o q k l t p m e same h =
        subst (λ (z : TypeOwner). and_then (λ (w : Owner). named_kind_tree given there w (string_bytes x) l) (owner_of graph_owners z) ≡ Some t) (sym e)
        (kept_then (λ (w : Owner). named_kind_tree given done w (string_bytes x) k) (λ (w : Owner). named_kind_tree given there w (string_bytes x) l) (owner_of package_owners o) (owner_of graph_owners (moved_owner owners o)) t
        (λ w f. same x refl ∙ f) (λ w. named_follows so_far (to places) done there follows given w (string_bytes x) k l t p m) h)

    def_follows : (d e : TypeDef) (t : Tree) → is_kind_placed so_far d.kind ≡ true → IsMovedDef (to places) (moved_owner owners d.owner) d e → ((x : String Global) → d.name ≡ Some x → owner_of graph_owners (moved_owner owners d.owner) ≡ owner_of package_owners d.owner)
        → def_tree package_owners given done d ≡ Some t → def_tree graph_owners given there e ≡ Some t
    def_follows d e t p m same h =
        subst (λ (n : Option (String Global)). def_tree_of graph_owners given there n e.owner e.kind ≡ Some t) (sym m.name) (by_name d.name d.owner e.owner d.kind e.kind t p m.kind m.owner_is same h)

-- what was put last is there exactly where it stays
pub pushed_is : (b : Bool) (p : Plan) (more : Places) → is_placed ((with_place b p).places ++ more) (length p.places) ≡ b
pushed_is true p more = ap (λ (o : Option (Option ℕ)). is_some (flat o)) (get_kept (p.places ++ Some p.next ∷ []) more (length p.places) (Some p.next) (get_last p.places (Some p.next)))
pushed_is false p more = ap (λ (o : Option (Option ℕ)). is_some (flat o)) (get_kept (p.places ++ None ∷ []) more (length p.places) None (get_last p.places None))

-- ---- one more each time

module _ (given : Owner → Name → Tree) (package_owners graph_owners : Owners) (features : FeatureSet) (owners : OwnerPlaces) (others places : Places) (foreign own graph : List TypeDef)
    (package_whole : IsWhole package_owners given (foreign ++ own)) (graph_whole : IsWhole graph_owners given graph) (so_many : length others ≡ length foreign)
    (others_stand : StandForTheSame given others package_owners (foreign ++ own) graph_owners graph)
    (owners_are : (o : TypeOwner) → is_owner_placed owners o ≡ true → owner_of graph_owners (moved_owner owners o) ≡ owner_of package_owners o)
    (placed : AreTypesPlaced features owners others (length graph) own places)
  where
    abbrev begun : Plan
    begun = record { places = others; next = length graph }

    abbrev plan : List TypeDef → Plan
    plan xs = with_types features owners begun xs

    -- what holds of those that were moved so far
    record SoFar (xs fs : List TypeDef) : Type 0 where
      next : (plan xs).next ≡ length graph + length fs
      stand : StandForTheSame given (plan xs).places package_owners (foreign ++ own) graph_owners (graph ++ fs)
      whole : IsWhole graph_owners given (graph ++ fs)

    none_yet : SoFar [] []
    none_yet = record {
      next = omega arith;
      stand = λ i j t p h. subst (λ (b : List TypeDef). HasTree graph_owners given b j t) (sym (append-nil graph)) (others_stand i j t p h);
      whole = subst (IsWhole graph_owners given) (sym (append-nil graph)) graph_whole;
    }

    module _ (xs ys fs : List TypeDef) (d : TypeDef) (split : xs ++ d ∷ ys ≡ own) (so_far : SoFar xs fs) where
      abbrev stays : Bool
      stays = type_stays features owners (plan xs).places d

      plan_next : plan (xs ++ d ∷ []) ≡ with_place stays (plan xs)
      plan_next = plan_append features owners begun xs (d ∷ [])

      at_end : length (plan xs).places ≡ length foreign + length xs
      at_end = plan_length features owners begun xs ∙ ap (λ (n : ℕ). n + length xs) so_many

      -- where all of them stand is where these do, and more
      all_places : (more : Places) × (places ≡ (with_place stays (plan xs)).places ++ more)
      all_places =
          let r = plan_grows features owners (with_type features owners (plan xs) d) ys in
          (r.0, placed.are ∙ ap (λ (ds : List TypeDef). (with_types features owners begun ds).places) (sym split) ∙ ap (λ (p : Plan). p.places) (plan_append features owners begun xs (d ∷ ys)) ∙ r.1)

      first_places : (more : Places) × (places ≡ (plan xs).places ++ more)
      first_places =
          let r = plan_grows features owners (plan xs) (d ∷ ys) in
          (r.0, placed.are ∙ ap (λ (ds : List TypeDef). (with_types features owners begun ds).places) (sym split) ∙ ap (λ (p : Plan). p.places) (plan_append features owners begun xs (d ∷ ys)) ∙ r.1)

      here : slice_get own (length xs) ≡ Some d
      here = subst (λ (ds : List TypeDef). slice_get ds (length xs) ≡ Some d) split (get_here xs ys d)

      front : take (length xs) own ≡ xs
      front = subst (λ (ds : List TypeDef). take (length xs) ds ≡ xs) split (take_front xs (d ∷ ys))

      stays_is : is_placed places (length foreign + length xs) ≡ stays
      stays_is =
          ap (λ (ps : Places). is_placed ps (length foreign + length xs)) all_places.1
          ∙ ap (λ (n : ℕ). is_placed ((with_place stays (plan xs)).places ++ all_places.0) n) (sym at_end)
          ∙ pushed_is stays (plan xs) all_places.0

      -- one that is left out
      leaves_out : is_placed places (length foreign + length xs) ≡ false → SoFar (xs ++ d ∷ []) fs
      leaves_out out =
          let now : plan (xs ++ d ∷ []) ≡ with_place false (plan xs) = plan_next ∙ ap (λ (b : Bool). with_place b (plan xs)) (sym stays_is ∙ out) in
          record {
            next = ap (λ (p : Plan). p.next) now ∙ so_far.next;
            stand = λ i j t p h. elim (place_more (plan xs).places None i j (subst (λ (q : Plan). place_of q.places i ≡ Some j) now p)) as (λ _. HasTree graph_owners given (graph ++ fs) j t) [
              | inl was ↦ so_far.stand i j t was h
              | inr last ↦ absurd (let e : None ≡ Some j = last.1 in cc)
            ];
            whole = so_far.whole;
          }

      module _ (e : TypeDef) (there : is_placed places (length foreign + length xs) ≡ true) (is : IsMovedDef (to places) (moved_owner owners d.owner) d e) where
        yes : stays ≡ true
        yes = sym stays_is ∙ there

        -- all that it is made of stands somewhere
        kind_there : is_kind_placed (plan xs).places d.kind ≡ true
        kind_there =
            elim (either (is_kind_placed (plan xs).places d.kind)) as (λ _. is_kind_placed (plan xs).places d.kind ≡ true) [
              | inl is_there ↦ is_there
              | inr isnt ↦ absurd (placed.kept d.span (record {
                place = length xs;
                one = d;
                breaks = record {
                  there = here;
                  stays = subst (λ (ds : List TypeDef). type_stays features owners (plan ds).places d ≡ true) (sym front) yes;
                  unplaced = subst (λ (ds : List TypeDef). is_kind_placed (plan ds).places d.kind ≡ false) (sym front) isnt;
                };
                stands = refl;
              }))
            ]

        owner_there : (x : String Global) → d.name ≡ Some x → owner_of graph_owners (moved_owner owners d.owner) ≡ owner_of package_owners d.owner
        owner_there x named =
            owners_are d.owner
            (and_parts (item_stays features d.stability) (is_owner_placed owners d.owner) (subst (λ (n : Option (String Global)). named_stays features owners (plan xs).places d n ≡ true) named yes)).1

        at : slice_get (foreign ++ own) (length foreign + length xs) ≡ Some d
        at = get_behind foreign own (length xs) ∙ here

        abbrev stood : (t : Tree) × (ref_tree (trees package_owners given (foreign ++ own)) (ref.Id (length foreign + length xs)) ≡ Some t) × (def_tree package_owners given (trees package_owners given (foreign ++ own)) d ≡ Some t)
        stood = def_at package_owners given (foreign ++ own) (length foreign + length xs) d package_whole at

        follows : (i : ℕ) (t : Tree) → is_placed (plan xs).places i ≡ true → flat_tree (slice_get (trees package_owners given (foreign ++ own)) i) ≡ Some t → flat_tree (slice_get (trees graph_owners given (graph ++ fs)) (to places i)) ≡ Some t
        follows i t p h =
            let j = placed_some (place_of (plan xs).places i) p in
            let k : place_of places i ≡ Some j.0 = subst (λ (ps : Places). place_of ps i ≡ Some j.0) (sym first_places.1) (place_kept (plan xs).places first_places.0 i j.0 j.1) in
            subst (λ (n : ℕ). flat_tree (slice_get (trees graph_owners given (graph ++ fs)) n) ≡ Some t) (sym (ap (λ (o : Option ℕ). unwrap_or o i) k)) (so_far.stand i j.0 t j.1 h)

        gives : def_tree graph_owners given (trees graph_owners given (graph ++ fs)) e ≡ Some stood.0
        gives =
            def_follows given package_owners graph_owners owners (plan xs).places places (trees package_owners given (foreign ++ own)) (trees graph_owners given (graph ++ fs)) follows d e stood.0 kind_there is owner_there stood.2

        behind : (P : List TypeDef → Type 0) → P ((graph ++ fs) ++ e ∷ []) → P (graph ++ (fs ++ e ∷ []))
        behind P h = subst P (append_assoc graph fs (e ∷ [])) h

        -- one that stays
        moves : SoFar (xs ++ d ∷ []) (fs ++ e ∷ [])
        moves =
            let now : plan (xs ++ d ∷ []) ≡ with_place true (plan xs) = plan_next ∙ ap (λ (b : Bool). with_place b (plan xs)) yes in
            let last_length : length (fs ++ e ∷ []) ≡ length fs + 1 = length-append fs (e ∷ []) in
            let whole_length : length (graph ++ fs) ≡ length graph + length fs = length-append graph fs in
            let before = so_far.next in
            record {
              next = ap (λ (p : Plan). p.next) now ∙ (let r : (plan xs).next + 1 ≡ length graph + length (fs ++ e ∷ []) = omega (arith, last_length, before) in r);
              stand = λ i j t p h. behind (λ (b : List TypeDef). HasTree graph_owners given b j t) (elim (place_more (plan xs).places (Some (plan xs).next) i j (subst (λ (q : Plan). place_of q.places i ≡ Some j) now p)) as (λ _. HasTree graph_owners given ((graph ++ fs) ++ e ∷ []) j t) [
                | inl was ↦ ref_kept graph_owners given (graph ++ fs) (e ∷ []) (ref.Id j) t (so_far.stand i j t was h)
                | inr last ↦
                    let same : t ≡ stood.0 = same_Some t stood.0 (sym (subst (λ (n : ℕ). HasTree package_owners given (foreign ++ own) n t) (last.0 ∙ at_end) h) ∙ stood.1) in
                    let place : j ≡ length (graph ++ fs) = sym (same_Some (plan xs).next j last.1) ∙ before ∙ sym whole_length in
                    subst (λ (n : ℕ). HasTree graph_owners given ((graph ++ fs) ++ e ∷ []) n t) (sym place)
                    (subst (λ (u : Tree). HasTree graph_owners given ((graph ++ fs) ++ e ∷ []) (length (graph ++ fs)) u) (sym same) (added graph_owners given (graph ++ fs) e stood.0 gives))
              ]);
              whole = behind (IsWhole graph_owners given) (whole_more graph_owners given (graph ++ fs) e stood.0 so_far.whole gives);
            }

    all_so_far : (xs fs : List TypeDef) → AreMovedDefs owners places (length foreign) xs fs → (ys : List TypeDef) → xs ++ ys ≡ own → SoFar xs fs
    all_so_far _ _ no_defs ys split = none_yet
    all_so_far _ _ (left_out xs fs d m out) ys split = (let s = sym (append_assoc xs (d ∷ []) ys) ∙ split in leaves_out xs ys fs d s (all_so_far xs fs m (d ∷ ys) s) out)
    all_so_far _ _ (moved xs fs d e m there is) ys split = (let s = sym (append_assoc xs (d ∷ []) ys) ∙ split in moves xs ys fs d s (all_so_far xs fs m (d ∷ ys) s) e there is)

pub moved_types_stand : MovedTypesStandForTheSame
moved_types_stand given package_owners graph_owners features owners others places foreign own graph fs m =
    let s = all_so_far given package_owners graph_owners features owners others places foreign own graph m.package_whole m.graph_whole m.so_many m.others_stand m.owners_are m.placed own fs m.are_moved [] (append-nil own) in
    (s.whole, λ i j t p h. s.stand i j t (subst (λ (ps : Places). place_of ps i ≡ Some j) m.placed.are p) h)

-- ---- names

module _ (places : Places) where
  -- each name that is kept was there, with an id that has that place
  name_was : (old new : List (String Global × ℕ)) → AreMovedNames places old new → (x : String Global) (j : ℕ) → Has new (x, j) → (i : ℕ) × Has old (x, i) × (place_of places i ≡ Some j)
  name_was _ _ no_entries x j has = absurd (has_none (x, j) has)
  name_was _ _ (one_goes k v es fs gone so) x j has = (let r = name_was es fs so x j has in (r.0, has_later (k, v) es (x, r.0) r.1, r.2))
  name_was _ _ (one_stays k v w es fs there at_place so) x j has =
      elim (has_cases (k, w) fs (x, j) has) as (λ _. (i : ℕ) × Has ((k, v) ∷ es) (x, i) × (place_of places i ≡ Some j)) [
        | inl same ↦
            let p = placed_some (place_of places v) there in
            let at : j ≡ p.0 = ap (λ (e : String Global × ℕ). e.1) same ∙ at_place ∙ ap (λ (o : Option ℕ). unwrap_or o v) p.1 in
            (v, subst (λ (y : String Global). Has ((k, v) ∷ es) (y, v)) (sym (ap (λ (e : String Global × ℕ). e.0) same)) (has_here (k, v) es), p.1 ∙ ap (λ (n : ℕ). Some n) (sym at))
        | inr later ↦ (let r = name_was es fs so x j later in (r.0, has_later (k, v) es (x, r.0) r.1, r.2))
      ]

pub moved_names_stand : MovedNamesStandForTheSame
moved_names_stand given places package_owners graph_owners a b old new same moves x j has = (let r = name_was places old new moves x j has in (r.0, r.1, λ t h. same r.0 j t r.2 h))

-- ---- functions

-- where types stand for the same, what has a place has its tree there
place_follows : (given : Owner → Name → Tree) (places : Places) (package_owners graph_owners : Owners) (a b : List TypeDef) → StandForTheSame given places package_owners a graph_owners b
    → (i : ℕ) (t : Tree) → is_placed places i ≡ true → flat_tree (slice_get (trees package_owners given a) i) ≡ Some t → flat_tree (slice_get (trees graph_owners given b) (to places i)) ≡ Some t
place_follows given places package_owners graph_owners a b same i t p h =
    let j = placed_some (place_of places i) p in
    subst (λ (n : ℕ). flat_tree (slice_get (trees graph_owners given b) n) ≡ Some t) (sym (ap (λ (o : Option ℕ). unwrap_or o i) j.1)) (same i j.0 t j.1 h)

pub moved_functions_stand : MovedFunctionsStandForTheSame
moved_functions_stand given places package_owners graph_owners a b f g names params result same moves placed is =
    let done = trees package_owners given a in
    let there = trees graph_owners given b in
    let follows = place_follows given places package_owners graph_owners a b same in
    let p = and_parts (list_all (λ (x : Param). is_ref_placed places x.ty) f.params.items) (is_part_placed places f.result) placed in
    record {
      names_are = subst (λ (xs : List Param). map (λ (x : Param). string_bytes x.name) xs ≡ names) (sym moves.params) (param_names (to places) f.params.items ∙ is.names_are);
      params_are = subst (λ (xs : List Param). part_trees there (map (λ (x : Param). Some x.ty) xs) ≡ Some params) (sym moves.params) (params_follow places (to places) done there follows f.params.items p.0 params is.params_are);
      result_is = ap (part_tree there) moves.result ∙ part_follows places (to places) done there follows f.result result p.1 is.result_is;
    }
