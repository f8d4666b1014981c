-- Marks of functions that core imports need.
use Rattle.std.proofs.Common.{◌≡◌, ℕ, zero, suc, ◌+◌, ◌<◌, Bool, true, false, ◌&&◌, ◌||◌, if◌then◌else◌, List, [], ◌∷◌, ◌++◌, length, get_or, set, Option, Some, None, ◌⊎◌, inl, inr, refl, sym, subst, ap, ◌∙◌, arith, length-append}
use Rattle.std.proofs.lemmas.Bool.Decides.{eqb_tells}
use Rattle.std.proofs.lemmas.List.{get_or-set_same, get_or-set_other}
use Rattle.std.specs.Prelude.{slice_get, nat_eq, Vec}
use Rattle.std.specs.declared.alloc.Global.{Global}
use Rattle.wasm_types.specs.Entries.{ImportValue}
use Rattle.wit_order.specs.Order.{Has}
use Rattle.wit_core_items.specs.declared.import_places.ImportPlace.{ImportPlace}
use Rattle.wit_core_items.specs.declared.import_places.ImportPlace.TheVariants.{OwnFunction, InterfaceFunction, OwnDrop, InterfaceDrop, ExportedIntrinsic}
use Rattle.wit_core_names.specs.declared.items.ResourceIntrinsic.{ResourceIntrinsic}
use Rattle.core_links.specs.Names.{Names}
use Rattle.core_links.specs.Imports.{StandsAt}
use Rattle.core_links.specs.Marks.{is_marked, marks_of, is_marked_in, IsInterfaceAt, IsMarked, AreMarksOf}

-- ---- one place

pub marked_longer : (marks : List Bool) (k : ℕ) → is_marked (marks ++ false ∷ []) k ≡ is_marked marks k
marked_longer [] zero = refl
marked_longer [] (suc k) = refl
marked_longer (b ∷ marks) zero = refl
marked_longer (b ∷ marks) (suc k) = marked_longer marks k

pub marked_set : (marks : List Bool) (place k : ℕ) → place < length marks → is_marked (set marks place true) k ≡ (nat_eq place k || is_marked marks k)
marked_set marks place k within = elim (eqb_tells place k) as (λ _. is_marked (set marks place true) k ≡ (nat_eq place k || is_marked marks k)) [
  | inl same ↦
      subst (λ (i : ℕ). is_marked (set marks place true) i ≡ true) same.1 (get_or-set_same marks place true false within) ∙ sym (ap (λ (b : Bool). b || is_marked marks k) same.0)
  | inr other ↦ get_or-set_other marks place k true false (λ e. other.1 (sym e)) ∙ sym (ap (λ (b : Bool). b || is_marked marks k) other.0)
]

-- ---- a list of them

get_set_same : {X : Type 0} (xs : List X) (i : ℕ) (x : X) → i < length xs → slice_get (set xs i x) i ≡ Some x
get_set_same [] i x within = absurd (omega (arith, within))
get_set_same (y ∷ xs) zero x within = refl
get_set_same (y ∷ xs) (suc i) x within = get_set_same xs i x (omega (arith, within))

get_set_other : {X : Type 0} (xs : List X) (i j : ℕ) (x : X) → (i ≡ j → ⊥) → slice_get (set xs i x) j ≡ slice_get xs j
get_set_other [] i j x other = refl
get_set_other (y ∷ xs) zero zero x other = absurd (other refl)
get_set_other (y ∷ xs) zero (suc j) x other = refl
get_set_other (y ∷ xs) (suc i) zero x other = refl
get_set_other (y ∷ xs) (suc i) (suc j) x other = get_set_other xs i j x (λ e. other (ap (λ (n : ℕ). suc n) e))

-- so many, and nothing is marked
pub record AreUnmarked (all : List (Vec Bool Global)) (so_many : ℕ) : Type 0 where
  pub long : length all ≡ so_many
  pub none : (i k : ℕ) → is_marked_in all i k ≡ false

pub unmarked_more : (all : List (Vec Bool Global)) (so_many : ℕ) (v : Vec Bool Global) → AreUnmarked all so_many → v.items ≡ [] → AreUnmarked (all ++ v ∷ []) (so_many + 1)
unmarked_more all so_many v u bare = record { long = (let l = length-append all (v ∷ []) in let m = u.long in omega (arith, l, m)); none = λ i k. by all u.none i k }
  where
    by : (xs : List (Vec Bool Global)) → ((i k : ℕ) → is_marked_in xs i k ≡ false) → (i k : ℕ) → is_marked_in (xs ++ v ∷ []) i k ≡ false
    by [] none zero k = ap (λ (bs : List Bool). is_marked bs k) bare
    by [] none (suc i) k = refl
    by (x ∷ xs) none zero k = none zero k
    by (x ∷ xs) none (suc i) k = by xs (λ j m. none (suc j) m) i k

-- one of them is marked
pub marked_within : (all : List (Vec Bool Global)) (id place : ℕ) (old new : Vec Bool Global) → id < length all → slice_get all id ≡ Some old → ((k : ℕ) → is_marked new.items k ≡ (nat_eq place k || is_marked old.items k))
    → (i k : ℕ) → is_marked_in (set all id new) i k ≡ ((nat_eq id i && nat_eq place k) || is_marked_in all i k)
marked_within all id place old new within was more i k = elim (eqb_tells id i) as (λ _. is_marked_in (set all id new) i k ≡ ((nat_eq id i && nat_eq place k) || is_marked_in all i k)) [
  | inl same ↦
      (let here : is_marked_in (set all id new) i k ≡ is_marked new.items k = ap (λ (o : Option (Vec Bool Global)). is_marked (marks_of o) k) (subst (λ (j : ℕ). slice_get (set all id new) j ≡ Some new) same.1 (get_set_same all id new within)) in
      let before : is_marked_in all i k ≡ is_marked old.items k = ap (λ (o : Option (Vec Bool Global)). is_marked (marks_of o) k) (subst (λ (j : ℕ). slice_get all j ≡ Some old) same.1 was) in
      here ∙ more k ∙ ap (λ (b : Bool). nat_eq place k || b) (sym before) ∙ sym (ap (λ (b : Bool). (b && nat_eq place k) || is_marked_in all i k) same.0))
  | inr other ↦
      ap (λ (o : Option (Vec Bool Global)). is_marked (marks_of o) k) (get_set_other all id i new other.1) ∙ sym (ap (λ (b : Bool). (b && nat_eq place k) || is_marked_in all i k) other.0)
]

-- ---- what core imports stand for

or_right : (a b : Bool) → b ≡ true → (a || b) ≡ true
or_right true b e = refl
or_right false b e = e

or_parts : (a b : Bool) → (a || b) ≡ true → (a ≡ true) ⊎ (b ≡ true)
or_parts true b e = inl refl
or_parts false b e = inr e

and_parts : (a b : Bool) → (a && b) ≡ true → (a ≡ true) × (b ≡ true)
and_parts true b e = (refl, e)
and_parts false b e = absurd cc

has_front : {X : Type 0} (xs : List X) (y x : X) → Has xs x → Has (xs ++ y ∷ []) x
has_front [] y x h = absurd h
has_front (z ∷ xs) y x (inl here) = inl here
has_front (z ∷ xs) y x (inr later) = inr (has_front xs y x later)

has_end : {X : Type 0} (xs : List X) (y : X) → Has (xs ++ y ∷ []) y
has_end [] y = inl refl
has_end (z ∷ xs) y = inr (has_end xs y)

has_either : {X : Type 0} (xs : List X) (y x : X) → Has (xs ++ y ∷ []) x → Has xs x ⊎ (x ≡ y)
has_either [] y x (inl here) = inr here
has_either [] y x (inr later) = absurd later
has_either (z ∷ xs) y x (inl here) = inl (inl here)
has_either (z ∷ xs) y x (inr later) = elim (has_either xs y x later) [ inl was ↦ inl (inr was) | inr last ↦ inr last ]

pub none_marked : (n : Names) (own : List Bool) (all : List (Vec Bool Global)) → ((k : ℕ) → is_marked own k ≡ false) → ((i k : ℕ) → is_marked_in all i k ≡ false) → AreMarksOf n [] own all
none_marked n own all none nones = record {
  all = λ i h. absurd h;
  own_only = λ entry m. absurd (let e : false ≡ true = sym (none entry) ∙ m in cc);
  only = λ id j m. absurd (let e : false ≡ true = sym (nones id j) ∙ m in cc);
}

-- where nothing is asked to be marked
pub drop_unmarked : (n : Names) (own : List Bool) (all : List (Vec Bool Global)) (p : ImportPlace)
    → ((r : ℕ) × (p ≡ OwnDrop r)) ⊎ (((entry : ℕ) × (r : ℕ) × (p ≡ InterfaceDrop entry r)) ⊎ ((entry : ℕ) × (r : ℕ) × (what : ResourceIntrinsic) × (p ≡ ExportedIntrinsic entry r what))) → IsMarked n own all p
drop_unmarked n own all p (inl is) = subst (IsMarked n own all) (sym is.1) tt
drop_unmarked n own all p (inr (inl is)) = subst (IsMarked n own all) (sym is.2) tt
drop_unmarked n own all p (inr (inr is)) = subst (IsMarked n own all) (sym is.3) tt

-- what is marked stays so
module _ (n : Names) (own own2 : List Bool) (all all2 : List (Vec Bool Global)) (kept : (k : ℕ) → is_marked own k ≡ true → is_marked own2 k ≡ true) (kept_in : (i k : ℕ) → is_marked_in all i k ≡ true → is_marked_in all2 i k ≡ true) where
  marked_stays : (p : ImportPlace) → IsMarked n own all p → IsMarked n own2 all2 p
  marked_stays (OwnFunction entry) m = kept entry m
  marked_stays (InterfaceFunction entry j) (id, at, m) = (id, at, kept_in id j m)
  marked_stays (OwnDrop r) m = tt
  marked_stays (InterfaceDrop entry r) m = tt
  marked_stays (ExportedIntrinsic entry r what) m = tt

module _ (n : Names) (is : List ImportValue) (i : ImportValue) (own : List Bool) (all : List (Vec Bool Global)) (m : AreMarksOf n is own all) where
  abbrev more : List ImportValue
  more = is ++ i ∷ []

  with_one : (own2 : List Bool) (all2 : List (Vec Bool Global)) (p : ImportPlace) → StandsAt n i p → ((k : ℕ) → is_marked own k ≡ true → is_marked own2 k ≡ true) → ((a k : ℕ) → is_marked_in all a k ≡ true → is_marked_in all2 a k ≡ true) → IsMarked n own2 all2 p
      → (x : ImportValue) → Has more x → (q : ImportPlace) × StandsAt n x q × IsMarked n own2 all2 q
  with_one own2 all2 p at kept kept_in marked x h = elim (has_either is i x h) as (λ _. (q : ImportPlace) × StandsAt n x q × IsMarked n own2 all2 q) [
    | inl was ↦ (let r = m.all x was in (r.0, r.1, marked_stays n own own2 all all2 kept kept_in r.0 r.2))
    | inr last ↦ (p, subst (λ (y : ImportValue). StandsAt n y p) (sym last) at, marked)
  ]

  own_was : (k : ℕ) → is_marked own k ≡ true → (x : ImportValue) × Has more x × StandsAt n x (OwnFunction k)
  own_was k h = let r = m.own_only k h in (r.0, has_front is i r.0 r.1, r.2)

  linked_was : (id j : ℕ) → is_marked_in all id j ≡ true → (x : ImportValue) × (entry : ℕ) × Has more x × IsInterfaceAt n entry id × StandsAt n x (InterfaceFunction entry j)
  linked_was id j h = let r = m.only id j h in (r.0, r.1, has_front is i r.0 r.2, r.3, r.4)

  pub own_marked : (own2 : List Bool) (entry : ℕ) → StandsAt n i (OwnFunction entry) → ((k : ℕ) → is_marked own2 k ≡ (nat_eq entry k || is_marked own k)) → AreMarksOf n more own2 all
  own_marked own2 entry at marks =
      let here : is_marked own2 entry ≡ true = marks entry ∙ elim (eqb_tells entry entry) as (λ _. (nat_eq entry entry || is_marked own entry) ≡ true) [
        | inl same ↦ ap (λ (b : Bool). b || is_marked own entry) same.0
        | inr other ↦ absurd (other.1 refl)
      ] in
      record {
        all = with_one own2 all (OwnFunction entry) at (λ k h. marks k ∙ or_right (nat_eq entry k) (is_marked own k) h) (λ a k h. h) here;
        own_only = λ k h. elim (or_parts (nat_eq entry k) (is_marked own k) (sym (marks k) ∙ h)) as (λ _. (x : ImportValue) × Has more x × StandsAt n x (OwnFunction k)) [
          | inl this ↦ elim (eqb_tells entry k) as (λ _. (x : ImportValue) × Has more x × StandsAt n x (OwnFunction k)) [
            | inl same ↦ (i, has_end is i, subst (λ (e : ℕ). StandsAt n i (OwnFunction e)) same.1 at)
            | inr other ↦ absurd (let e : true ≡ false = sym this ∙ other.0 in cc)
          ]
          | inr was ↦ own_was k was
        ];
        only = linked_was;
      }

  pub linked_marked : (all2 : List (Vec Bool Global)) (entry j id : ℕ) → StandsAt n i (InterfaceFunction entry j) → IsInterfaceAt n entry id → ((a k : ℕ) → is_marked_in all2 a k ≡ ((nat_eq id a && nat_eq j k) || is_marked_in all a k)) → AreMarksOf n more own all2
  linked_marked all2 entry j id at there marks =
      let here : is_marked_in all2 id j ≡ true = marks id j ∙ elim (eqb_tells id id) as (λ _. ((nat_eq id id && nat_eq j j) || is_marked_in all id j) ≡ true) [
        | inl same ↦ elim (eqb_tells j j) as (λ _. ((nat_eq id id && nat_eq j j) || is_marked_in all id j) ≡ true) [
          | inl too ↦ ap (λ (b : Bool). (b && nat_eq j j) || is_marked_in all id j) same.0 ∙ ap (λ (b : Bool). b || is_marked_in all id j) too.0
          | inr other ↦ absurd (other.1 refl)
        ]
        | inr other ↦ absurd (other.1 refl)
      ] in
      record {
        all = with_one own all2 (InterfaceFunction entry j) at (λ k h. h) (λ a k h. marks a k ∙ or_right (nat_eq id a && nat_eq j k) (is_marked_in all a k) h) (id, there, here);
        own_only = own_was;
        only = λ a k h. elim (or_parts (nat_eq id a && nat_eq j k) (is_marked_in all a k) (sym (marks a k) ∙ h)) as (λ _. (x : ImportValue) × (e : ℕ) × Has more x × IsInterfaceAt n e a × StandsAt n x (InterfaceFunction e k)) [
          | inl this ↦ (let both = and_parts (nat_eq id a) (nat_eq j k) this in elim (eqb_tells id a) as (λ _. (x : ImportValue) × (e : ℕ) × Has more x × IsInterfaceAt n e a × StandsAt n x (InterfaceFunction e k)) [
            | inl same ↦ elim (eqb_tells j k) as (λ _. (x : ImportValue) × (e : ℕ) × Has more x × IsInterfaceAt n e a × StandsAt n x (InterfaceFunction e k)) [
              | inl too ↦ (i, entry, has_end is i, subst (IsInterfaceAt n entry) same.1 there, subst (λ (q : ℕ). StandsAt n i (InterfaceFunction entry q)) too.1 at)
              | inr other ↦ absurd (let e : true ≡ false = sym both.1 ∙ other.0 in cc)
            ]
            | inr other ↦ absurd (let e : true ≡ false = sym both.0 ∙ other.0 in cc)
          ])
          | inr was ↦ linked_was a k was
        ];
      }

  -- what is done with a resource needs no mark
  pub unmarked : (p : ImportPlace) → StandsAt n i p → IsMarked n own all p → AreMarksOf n more own all
  unmarked p at marked = record {
    all = with_one own all p at (λ k h. h) (λ a k h. h) marked;
    own_only = own_was;
    only = linked_was;
  }
