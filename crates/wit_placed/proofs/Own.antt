-- Interfaces and worlds that take places one behind the other.
use Rattle.std.proofs.Common.{◌≡◌, ℕ, ◌+◌, ◌<◌, ◌≤◌, zero, suc, Bool, true, false, List, [], ◌∷◌, ◌++◌, inl, inr, Some, None, refl, sym, subst, ap, ◌∙◌, arith, length, length-append, map}
use Rattle.std.proofs.lemmas.Option.{same_Some}
use Rattle.std.specs.Prelude.{slice_get}
use Rattle.wit_plans.specs.Passed.wit_types-declared-interface-Interface.{Interface}
use Rattle.wit_plans.specs.Passed.wit_types-declared-stability-Stability.{Stability}
use Rattle.wit_plans.specs.Passed.wit_types-declared-world-World.{World}
use Rattle.wit_plans.specs.Passed.wit_features-Features.{FeatureSet, stays}
use Rattle.wit_moved_trees.specs.Passed.wit_moves-Moved.{Places, place_of}
use Rattle.wit_moved_trees.specs.Passed.wit_moves-Plan.{Plan, with_place}
use Rattle.wit_plans.specs.Passed.wit_finding-Own.{with_own, placed}
use Rattle.wit_plans.specs.Checks.{Standing}
use Rattle.wit_plans.specs.Moves.{AreMovedInterfaces, no_interfaces, interface_goes, interface_stays, IsMovedWorld, AreMovedWorlds, no_worlds, world_goes, world_stays}
use Rattle.wit_plans.specs.declared.moves.MovedWorld.{MovedWorld}
use Rattle.wit_moved_trees.specs.Passed.wit_moves-Interfaces.{IsMovedInterface}
use Rattle.wit_moved_trees.proofs.Moving.{place_more, place_kept}
use Rattle.wit_placed.specs.There.{AreBelow}
use Rattle.wit_placed.specs.Order.{interface_places, InterfacesTakePlaces}
use Rattle.wit_placed.specs.Worlds.{WorldsTakePlaces, WorldsTakePlacesAlone}
use Rattle.wit_placed.proofs.Sources.{put_last}

abbrev gates : List Interface → List Stability
gates ds = map (λ (d : Interface). d.stability) ds

-- of those from a number on, later ones stand behind all before them
abbrev pub AreRisingFrom : ℕ → Places → Type 0
AreRisingFrom c places = (i j a b : ℕ) → c ≤ j → i < j → place_of places i ≡ Some a → place_of places j ≡ Some b → a < b

-- ---- one more

below_place : (b : Bool) (p : Plan) → AreBelow p.next p.places → AreBelow (with_place b p).next (with_place b p).places
below_place true p below i j h =
    elim (place_more p.places (Some p.next) i j h) as (λ _. j < p.next + 1) [
      | inl was ↦ (let l : j < p.next = below i j was in omega arith)
      | inr last ↦ (let e : p.next ≡ j = same_Some p.next j last.1 in omega (arith, e))
    ]
below_place false p below i j h = elim (place_more p.places None i j h) as (λ _. j < p.next) [ inl was ↦ below i j was | inr last ↦ absurd (let e : None ≡ Some j = last.1 in cc) ]

pub place_within : (ps : Places) (k n : ℕ) → place_of ps k ≡ Some n → k < length ps
place_within [] k n h = absurd cc
place_within (q ∷ ps) zero n h = omega arith
place_within (q ∷ ps) (suc k) n h = (let l : k < length ps = place_within ps k n h in omega arith)

rising_place : (b : Bool) (c : ℕ) (p : Plan) → AreBelow p.next p.places → AreRisingFrom c p.places → AreRisingFrom c (with_place b p).places
rising_place true c p below rising i j a b l m at_i at_j =
    elim (place_more p.places (Some p.next) j b at_j) as (λ _. a < b) [
      | inl was_j ↦ elim (place_more p.places (Some p.next) i a at_i) as (λ _. a < b) [
        | inl was_i ↦ rising i j a b l m was_i was_j
        | inr last_i ↦ absurd (let e : i ≡ length p.places = last_i.0 in let k : j < length p.places = place_within p.places j b was_j in omega (arith, e))
      ]
      | inr last_j ↦ elim (place_more p.places (Some p.next) i a at_i) as (λ _. a < b) [
        | inl was_i ↦ (let q : a < p.next = below i a was_i in let e : p.next ≡ b = same_Some p.next b last_j.1 in omega (arith, e))
        | inr last_i ↦ absurd (let e : i ≡ length p.places = last_i.0 in let f : j ≡ length p.places = last_j.0 in omega (arith, e, f))
      ]
    ]
rising_place false c p below rising i j a b l m at_i at_j =
    elim (place_more p.places None j b at_j) as (λ _. a < b) [
      | inl was_j ↦ elim (place_more p.places None i a at_i) as (λ _. a < b) [
        | inl was_i ↦ rising i j a b l m was_i was_j
        | inr last_i ↦ absurd (let e : None ≡ Some a = last_i.1 in cc)
      ]
      | inr last_j ↦ absurd (let e : None ≡ Some b = last_j.1 in cc)
    ]

-- places of those from a number on are no lower than that
abbrev AreFrom : ℕ → ℕ → Places → Type 0
AreFrom c base places = (i j : ℕ) → c ≤ i → place_of places i ≡ Some j → base ≤ j

from_place : (b : Bool) (c base : ℕ) (p : Plan) → base ≤ p.next → AreFrom c base p.places → (base ≤ (with_place b p).next) × AreFrom c base (with_place b p).places
from_place true c base p least from = (
  omega (arith, least),
  λ i j l h. elim (place_more p.places (Some p.next) i j h) as (λ _. base ≤ j) [
    | inl was ↦ from i j l was
    | inr last ↦ (let e : p.next ≡ j = same_Some p.next j last.1 in omega (arith, e, least))
  ],
)
from_place false c base p least from = (least, λ i j l h. elim (place_more p.places None i j h) as (λ _. base ≤ j) [ inl was ↦ from i j l was | inr last ↦ absurd (let e : None ≡ Some j = last.1 in cc) ])

kept_place : (b : Bool) (p : Plan) (i j : ℕ) → place_of p.places i ≡ Some j → place_of (with_place b p).places i ≡ Some j
kept_place true p i j h = place_kept p.places (Some p.next ∷ []) i j h
kept_place false p i j h = place_kept p.places (None ∷ []) i j h

-- ---- all of them

module _ (features : FeatureSet) where
  below_all : (p : Plan) (ss : List Stability) → AreBelow p.next p.places → AreBelow (with_own features p ss).next (with_own features p ss).places
  below_all p [] below = below
  below_all p (x ∷ ss) below = below_all (with_place (stays features x) p) ss (below_place (stays features x) p below)

  rising_all : (c : ℕ) (p : Plan) (ss : List Stability) → AreBelow p.next p.places → AreRisingFrom c p.places → AreRisingFrom c (with_own features p ss).places
  rising_all c p [] below rising = rising
  rising_all c p (x ∷ ss) below rising = rising_all c (with_place (stays features x) p) ss (below_place (stays features x) p below) (rising_place (stays features x) c p below rising)

  from_all : (c base : ℕ) (p : Plan) (ss : List Stability) → base ≤ p.next → AreFrom c base p.places → AreFrom c base (with_own features p ss).places
  from_all c base p [] least from = from
  from_all c base p (x ∷ ss) least from = (let r = from_place (stays features x) c base p least from in from_all c base (with_place (stays features x) p) ss r.0 r.1)

  kept_all : (p : Plan) (ss : List Stability) (i j : ℕ) → place_of p.places i ≡ Some j → place_of (with_own features p ss).places i ≡ Some j
  kept_all p [] i j h = h
  kept_all p (x ∷ ss) i j h = kept_all (with_place (stays features x) p) ss i j (kept_place (stays features x) p i j h)

-- those that were there stand where they stood
was_place : (b : Bool) (p : Plan) (i j : ℕ) → i < length p.places → place_of (with_place b p).places i ≡ Some j → place_of p.places i ≡ Some j
was_place true p i j l h = elim (place_more p.places (Some p.next) i j h) as (λ _. place_of p.places i ≡ Some j) [ inl was ↦ was | inr last ↦ absurd (let e : i ≡ length p.places = last.0 in omega (arith, e)) ]
was_place false p i j l h = elim (place_more p.places None i j h) as (λ _. place_of p.places i ≡ Some j) [ inl was ↦ was | inr last ↦ absurd (let e : i ≡ length p.places = last.0 in omega (arith, e)) ]

longer : (b : Bool) (p : Plan) (i : ℕ) → i < length p.places → i < length (with_place b p).places
longer true p i l = (let e : length (p.places ++ Some p.next ∷ []) ≡ length p.places + 1 = length-append p.places (Some p.next ∷ []) in omega (arith, e, l))
longer false p i l = (let e : length (p.places ++ None ∷ []) ≡ length p.places + 1 = length-append p.places (None ∷ []) in omega (arith, e, l))

was_all : (features : FeatureSet) (p : Plan) (ss : List Stability) (i j : ℕ) → i < length p.places → place_of (with_own features p ss).places i ≡ Some j → place_of p.places i ≡ Some j
was_all features p [] i j l h = h
was_all features p (x ∷ ss) i j l h = was_place (stays features x) p i j l (was_all features (with_place (stays features x) p) ss i j (longer (stays features x) p i l) h)

pub others_stay : (features : FeatureSet) (others : Places) (base : ℕ) (ss : List Stability) (i j : ℕ) → i < length others → place_of (placed features others base ss) i ≡ Some j → place_of others i ≡ Some j
others_stay features others base ss i j l h = was_all features (record { places = others; next = base }) ss i j l h

-- those that stay, in their order
data AreMoved {X Y : Type 0} (features : FeatureSet) (gate : X → Stability) (Moved : X → Y → Type 0) : List X → List Y → Type 0 where
  none_moved : AreMoved features gate Moved [] []
  one_goes : (d : X) (ds : List X) (es : List Y) → stays features (gate d) ≡ false → AreMoved features gate Moved ds es → AreMoved features gate Moved (d ∷ ds) es
  one_stays : (d : X) (e : Y) (ds : List X) (es : List Y) → stays features (gate d) ≡ true → Moved d e → AreMoved features gate Moved ds es → AreMoved features gate Moved (d ∷ ds) (e ∷ es)

-- one of them, and where it stands
pub record IsFromOne {X Y : Type 0} (features : FeatureSet) (gate : X → Stability) (Moved : X → Y → Type 0) (c base : ℕ) (places : Places) (ds : List X) (k : ℕ) (e : Y) : Type 0 where
  pub place : ℕ
  pub old : X
  pub was : slice_get ds place ≡ Some old
  pub kept : stays features (gate old) ≡ true
  pub moved : Moved old e
  pub stands : place_of places (c + place) ≡ Some (base + k)

module _ {X Y : Type 0} (features : FeatureSet) (gate : X → Stability) (Moved : X → Y → Type 0) where
  abbrev Kept : List X → List Y → Type 0
  Kept ds es = AreMoved features gate Moved ds es

  abbrev From : ℕ → ℕ → Places → List X → ℕ → Y → Type 0
  From c base places ds k e = IsFromOne features gate Moved c base places ds k e

  next_is : (p : Plan) (ds : List X) (es : List Y) → Kept ds es → (with_own features p (map gate ds)).next ≡ p.next + length es
  next_is p _ _ none_moved = omega arith
  next_is p _ _ (one_goes d ds es st rest) = ap (λ (b : Bool). (with_own features (with_place b p) (map gate ds)).next) st ∙ next_is (with_place false p) ds es rest
  next_is p _ _ (one_stays d e ds es st m rest) =
      ap (λ (b : Bool). (with_own features (with_place b p) (map gate ds)).next) st ∙ next_is (with_place true p) ds es rest ∙ (let q : p.next + 1 + length es ≡ p.next + length (e ∷ es) = omega arith in q)

  later : (c d base next : ℕ) (places : Places) (o : X) (ds : List X) (k l : ℕ) (e : Y) → d ≡ c + 1 → next + k ≡ base + l → From d next places ds k e → From c base places (o ∷ ds) l e
  later c d base next places o ds k l e de ne f = record {
    place = suc f.place;
    old = f.old;
    was = f.was;
    kept = f.kept;
    moved = f.moved;
    stands =
        subst (λ (i : ℕ). place_of places i ≡ Some (base + l)) (let q : d + f.place ≡ c + suc f.place = omega (arith, de) in q)
        (subst (λ (n : ℕ). place_of places (d + f.place) ≡ Some n) ne f.stands);
  }

  each_from : (p : Plan) (ds : List X) (es : List Y) → Kept ds es → (k : ℕ) (e : Y) → slice_get es k ≡ Some e → From (length p.places) p.next (with_own features p (map gate ds)).places ds k e
  each_from p _ _ none_moved k e h = absurd cc
  each_from p _ _ (one_goes d ds es st rest) k e h =
      subst (λ (b : Bool). From (length p.places) p.next (with_own features (with_place b p) (map gate ds)).places (d ∷ ds) k e) (sym st)
      (later (length p.places) (length (with_place false p).places) p.next p.next (with_own features (with_place false p) (map gate ds)).places d ds k k e (length-append p.places (None ∷ [])) refl
      (each_from (with_place false p) ds es rest k e h))
  each_from p _ _ (one_stays d one ds es st m rest) zero e h =
      subst (λ (b : Bool). From (length p.places) p.next (with_own features (with_place b p) (map gate ds)).places (d ∷ ds) zero e) (sym st) (record {
        place = zero;
        old = d;
        was = refl;
        kept = st;
        moved = subst (Moved d) (same_Some one e h) m;
        stands =
            subst (λ (i : ℕ). place_of (with_own features (with_place true p) (map gate ds)).places i ≡ Some (p.next + 0)) (let q : length p.places ≡ length p.places + 0 = omega arith in q)
            (kept_all features (with_place true p) (map gate ds) (length p.places) (p.next + 0) (put_last p ∙ ap (λ (n : ℕ). Some n) (let q : p.next ≡ p.next + 0 = omega arith in q)));
      })
  each_from p _ _ (one_stays d one ds es st m rest) (suc k) e h =
      subst (λ (b : Bool). From (length p.places) p.next (with_own features (with_place b p) (map gate ds)).places (d ∷ ds) (suc k) e) (sym st)
      (later (length p.places) (length (with_place true p).places) p.next (p.next + 1) (with_own features (with_place true p) (map gate ds)).places d ds k (suc k) e (length-append p.places (Some p.next ∷ []))
      (let q : p.next + 1 + k ≡ p.next + suc k = omega arith in q) (each_from (with_place true p) ds es rest k e h))

  take_places : (others : Places) (base : ℕ) (own : List X) (new : List Y) → AreBelow base others → Kept own new → AreBelow (base + length new) (placed features others base (map gate own))
  take_places others base own new below moved =
      subst (λ (n : ℕ). AreBelow n (placed features others base (map gate own))) (next_is (record { places = others; next = base }) own new moved) (below_all features (record { places = others; next = base }) (map gate own) below)

-- ---- behind others

by_order : (a c : ℕ) → (a < c → ⊥) → (c < a → ⊥) → a ≡ c
by_order zero zero l m = refl
by_order zero (suc c) l m = absurd (l (omega arith))
by_order (suc a) zero l m = absurd (m (omega arith))
by_order (suc a) (suc c) l m = ap suc (by_order a c (λ h. l (omega (arith, h))) (λ h. m (omega (arith, h))))

-- none else takes the place of one behind what was there
pub only_one : (features : FeatureSet) (others : Places) (base : ℕ) (ss : List Stability) → AreBelow base others → (c u n : ℕ) → length others ≤ c → place_of (placed features others base ss) c ≡ Some n
    → place_of (placed features others base ss) u ≡ Some n → u ≡ c
only_one features others base ss below c u n far at_c at_u =
    by_order u c (λ less. (let l : n < n = rise u c n n far less at_u at_c in omega (arith, l))) (λ more. (let further : length others ≤ u = omega (arith, far, more) in let l : n < n = rise c u n n further more at_c at_u in omega (arith, l)))
  where
    rise : AreRisingFrom (length others) (placed features others base ss)
    rise = rising_all features (length others) (record { places = others; next = base }) ss below (λ i j a b l m at_i at_j. absurd (let k : j < length others = place_within others j b at_j in omega arith))

-- ---- interfaces

abbrev pub IsFrom : FeatureSet → Standing → ℕ → ℕ → ℕ → Places → List Interface → ℕ → Interface → Type 0
IsFrom features s owner c base places ds k e = IsFromOne features (λ (d : Interface). d.stability) (IsMovedInterface features s.types owner) c base places ds k e

module _ (features : FeatureSet) (s : Standing) (owner : ℕ) where
  abbrev AreKept : List Interface → List Interface → Type 0
  AreKept own new = AreMoved features (λ (d : Interface). d.stability) (IsMovedInterface features s.types owner) own new

  interfaces_kept : (own new : List Interface) → AreMovedInterfaces features s owner own new → AreKept own new
  interfaces_kept _ _ no_interfaces = none_moved
  interfaces_kept _ _ (interface_goes d ds es st rest) = one_goes d ds es st (interfaces_kept ds es rest)
  interfaces_kept _ _ (interface_stays d e ds es st m rest) = one_stays d e ds es st m (interfaces_kept ds es rest)

pub interfaces_take_places : InterfacesTakePlaces
interfaces_take_places features s owner others base own new below moved = take_places features (λ (d : Interface). d.stability) (IsMovedInterface features s.types owner) others base own new below (interfaces_kept features s owner own new moved)

pub interfaces_rise : (features : FeatureSet) (others : Places) (base : ℕ) (own : List Interface) → AreBelow base others → AreRisingFrom (length others) (interface_places features others base own)
interfaces_rise features others base own below =
    rising_all features (length others) (record { places = others; next = base }) (gates own) below (λ i j a b l m at_i at_j. absurd (let k : j < length others = place_within others j b at_j in omega arith))

-- those of the package's own stand behind all that were there
pub interfaces_from : (features : FeatureSet) (others : Places) (base : ℕ) (own : List Interface) (i j : ℕ) → length others ≤ i → place_of (interface_places features others base own) i ≡ Some j → base ≤ j
interfaces_from features others base own =
    from_all features (length others) base (record { places = others; next = base }) (gates own) (omega arith) (λ i j l h. absurd (let k : i < length others = place_within others i j h in omega (arith, k, l)))

pub interface_from : (features : FeatureSet) (s : Standing) (owner : ℕ) (others : Places) (base : ℕ) (own new : List Interface) → AreMovedInterfaces features s owner own new
    → (k : ℕ) (e : Interface) → slice_get new k ≡ Some e → IsFrom features s owner (length others) base (interface_places features others base own) own k e
interface_from features s owner others base own new moved k e h =
    each_from features (λ (d : Interface). d.stability) (IsMovedInterface features s.types owner) (record { places = others; next = base }) own new (interfaces_kept features s owner own new moved) k e h

-- ---- worlds

module _ (features : FeatureSet) (s : Standing) where
  abbrev AreWorldsKept : List World → List MovedWorld → Type 0
  AreWorldsKept own new = AreMoved features (λ (w : World). w.stability) (IsMovedWorld features s) own new

  worlds_kept : (own : List World) (new : List MovedWorld) → AreMovedWorlds features s own new → AreWorldsKept own new
  worlds_kept _ _ no_worlds = none_moved
  worlds_kept _ _ (world_goes w ws ms st rest) = one_goes w ws ms st (worlds_kept ws ms rest)
  worlds_kept _ _ (world_stays w m ws ms st is rest) = one_stays w m ws ms st is (worlds_kept ws ms rest)

pub worlds_take_places : WorldsTakePlaces
worlds_take_places features s others base own new below moved = take_places features (λ (w : World). w.stability) (IsMovedWorld features s) others base own new below (worlds_kept features s own new moved)

pub worlds_take_places_alone : WorldsTakePlacesAlone
worlds_take_places_alone features s others base own new below moved k m at =
    let f = each_from features (λ (w : World). w.stability) (IsMovedWorld features s) (record { places = others; next = base }) own new (worlds_kept features s own new moved) k m at in
    record {
      place = f.place;
      old = f.old;
      was = f.was;
      kept = f.kept;
      moved = f.moved;
      stands = f.stands;
      only = λ u h. only_one features others base (map (λ (w : World). w.stability) own) below (length others + f.place) u (base + k) (omega arith) f.stands h;
    }
