-- Types of a scope in their order.
use Rattle.std.proofs.Common.{◌≡◌, ℕ, ◌<◌, zero, suc, Bool, true, false, ◌||◌, List, [], ◌∷◌, ◌⊎◌, inl, inr, length, Option, Some, None, is_some, map, take, refl, sym, subst, ap, ◌∙◌, arith}
use Rattle.std.proofs.lemmas.Option.{same_Some, slice_get-map, slice_get_within}
use Rattle.std.proofs.lemmas.List.{length-map}
use Rattle.std.proofs.lemmas.Simd.{map-map}
use Rattle.std.proofs.lemmas.Slice.Eq.{bytes_eq-Decides}
use Rattle.std.specs.Prelude.{slice_get, option_map, bytes_eq}
use Rattle.std.specs.List.{list_any}
use Rattle.name_places.specs.FirstPlaces.{place_of}
use Rattle.name_places.proofs.Places.{place-is_some, place_names}
use Rattle.wit_words.specs.Slice.{Slice}
use Rattle.wit_order.specs.Order.{IsOrder, AreDependenciesFirst}
use Rattle.wit_order.specs.Order as order_of
use Rattle.wit_lookups.specs.Passed.wit_scopes-Members.{MemberTree}
use Rattle.wit_orders.specs.Needs.{Entry, labels, NeedsIn, type_entry, AreSorted}
use Rattle.wit_lookups.specs.Passed.wit_type_names-TypeNames.{names_in_member}
use Rattle.wit_resources.specs.Passed.wit_arena-Tree.{Name}
use Rattle.wit_resources.specs.Passed.wit_arena-Meaning.{Has}
use Rattle.wit_resources.proofs.Passed.wit_arena-Lists.{has_none, has_later, has_map}
use Rattle.wit_functions.specs.Passed.wit_package_types-Fill.{member_names}

pub or_true : (b : Bool) → (b || true) ≡ true
or_true true = refl
or_true false = refl

-- what stands before a place stands in the list up to it
pub taken_at : {X : Type 0} (xs : List X) (l k : ℕ) (x : X) → l < k → slice_get xs l ≡ Some x → slice_get (take k xs) l ≡ Some x
taken_at [] l k x less at = absurd cc
taken_at (y ∷ xs) l zero x less at = absurd (omega (arith, less))
taken_at (y ∷ xs) zero (suc k) x less at = at
taken_at (y ∷ xs) (suc l) (suc k) x less at = taken_at xs l k x (omega (arith, less)) at

pub at_taken : {X : Type 0} (xs : List X) (l k : ℕ) (x : X) → slice_get (take k xs) l ≡ Some x → (l < k) × (slice_get xs l ≡ Some x)
at_taken [] l zero x at = absurd cc
at_taken [] l (suc k) x at = absurd cc
at_taken (y ∷ xs) l zero x at = absurd cc
at_taken (y ∷ xs) zero (suc k) x at = (omega arith, at)
at_taken (y ∷ xs) (suc l) (suc k) x at = (let r = at_taken xs l k x at in ((let less : l < k = r.0 in omega (arith, less)), r.1))

-- ---- two ways to say that something stands in a list

pub listed : {X : Type 0} (xs : List X) (x : X) → Has xs x → order_of.Has xs x
listed [] x h = absurd (has_none x h)
listed (y ∷ ys) x (zero, e) = inl (sym (same_Some y x e))
listed (y ∷ ys) x (suc k, e) = inr (listed ys x (k, e))

pub placed : {X : Type 0} (xs : List X) (x : X) → order_of.Has xs x → Has xs x
placed [] x h = absurd h
placed (y ∷ ys) x (inl e) = (0, ap (λ z. Some z) (sym e))
placed (y ∷ ys) x (inr h) = has_later y ys x (placed ys x h)

-- a name that stands among others has a place
pub named_place : (ns : List Name) (x : Name) → Has ns x → (j : ℕ) × (place_of x ns ≡ Some j)
named_place ns x has = by (place_of x ns) refl
  where
    there : (ms : List Name) → Has ms x → list_any (bytes_eq x) ms ≡ true
    there [] h = absurd (has_none x h)
    there (m ∷ ms) (zero, e) = (let same : bytes_eq x m ≡ true = (bytes_eq-Decides x m).1 (sym (same_Some m x e)) in rw same refl)
    there (m ∷ ms) (suc k, e) = rw (there ms (k, e)) (or_true (bytes_eq x m))

    by : (o : Option ℕ) → place_of x ns ≡ o → (j : ℕ) × (o ≡ Some j)
    by (Some j) e = (j, refl)
    by None e = absurd (let t : is_some (place_of x ns) ≡ true = place-is_some x ns ∙ there ns has in let f : is_some (place_of x ns) ≡ false = ap (λ (o : Option ℕ). is_some o) e in cc)

-- ---- orders

module _ (n : ℕ) (needs : ℕ → ℕ → Type 0) where
  -- what the one at a place needs stands before it
  pub needed_before : (before is : List ℕ) → AreDependenciesFirst n needs before is → (k i j : ℕ) → slice_get is k ≡ Some i → needs i j → order_of.Has before j ⊎ ((l : ℕ) × (l < k) × (slice_get is l ≡ Some j))
  needed_before before [] first k i j at need = absurd cc
  needed_before before (h ∷ is) first zero i j at need = inl (first.0.1 j (subst (λ (z : ℕ). needs z j) (sym (same_Some h i at)) need))
  needed_before before (h ∷ is) first (suc k) i j at need =
      elim (needed_before (h ∷ before) is first.1 k i j at need) as (λ _. order_of.Has before j ⊎ ((l : ℕ) × (l < suc k) × (slice_get (h ∷ is) l ≡ Some j))) [
        | inl was ↦ elim was as (λ _. order_of.Has before j ⊎ ((l : ℕ) × (l < suc k) × (slice_get (h ∷ is) l ≡ Some j))) [
          | inl same ↦ inr (0, omega arith, ap (λ (z : ℕ). Some z) (sym same))
          | inr earlier ↦ inl earlier
        ]
        | inr later ↦ inr (suc later.0, (let less : later.0 < k = later.1 in omega (arith, less)), later.2)
      ]

  -- none stands twice
  pub not_before : (before is : List ℕ) → AreDependenciesFirst n needs before is → (k i : ℕ) → slice_get is k ≡ Some i → order_of.Has before i → ⊥
  not_before before [] first k i at was = absurd cc
  not_before before (h ∷ is) first zero i at was = first.0.0 (subst (order_of.Has before) (sym (same_Some h i at)) was)
  not_before before (h ∷ is) first (suc k) i at was = not_before (h ∷ before) is first.1 k i at (inr was)

  pub once : (before is : List ℕ) → AreDependenciesFirst n needs before is → (k l i : ℕ) → k < l → slice_get is k ≡ Some i → slice_get is l ≡ Some i → ⊥
  once before [] first k l i less at_k at_l = absurd cc
  once before (h ∷ is) first k zero i less at_k at_l = absurd (omega (arith, less))
  once before (h ∷ is) first zero (suc l) i less at_k at_l = not_before (h ∷ before) is first.1 l i at_l (inl (sym (same_Some h i at_k)))
  once before (h ∷ is) first (suc k) (suc l) i less at_k at_l = once (h ∷ before) is first.1 k l i (omega (arith, less)) at_k at_l

-- ---- types in their order

module _ (types sorted : List MemberTree) (are : AreSorted types sorted) where
  -- each stands among the types
  pub sorted_at : (k : ℕ) (m : MemberTree) → slice_get sorted k ≡ Some m → (p : ℕ) × (slice_get are.0 k ≡ Some p) × (slice_get types p ≡ Some m)
  sorted_at k m at = by (slice_get are.0 k) refl
    where
      whole : option_map (slice_get types) (slice_get are.0 k) ≡ Some (Some m)
      whole = sym (slice_get-map (slice_get types) are.0 k) ∙ ap (λ (os : List (Option MemberTree)). slice_get os k) are.2 ∙ slice_get-map (λ (n : MemberTree). Some n) sorted k ∙ ap (option_map (λ (n : MemberTree). Some n)) at

      by : (o : Option ℕ) → slice_get are.0 k ≡ o → (p : ℕ) × (o ≡ Some p) × (slice_get types p ≡ Some m)
      by (Some p) e = (p, refl, same_Some (slice_get types p) (Some m) (sym (ap (option_map (slice_get types)) e) ∙ whole))
      by None e = absurd (let f : None ≡ Some (Some m) = sym (ap (option_map (slice_get types)) e) ∙ whole in cc)

  pub sorted_has : (m : MemberTree) → Has sorted m → Has types m
  sorted_has m (k, at) = (let s = sorted_at k m at in (s.0, s.2))

  -- what stands at a place of the order
  at_order : (l j : ℕ) (m : MemberTree) → slice_get are.0 l ≡ Some j → slice_get types j ≡ Some m → slice_get sorted l ≡ Some m
  at_order l j m at there = by (slice_get sorted l) refl
    where
      whole : option_map (λ (n : MemberTree). Some n) (slice_get sorted l) ≡ Some (Some m)
      whole = sym (slice_get-map (λ (n : MemberTree). Some n) sorted l) ∙ sym (ap (λ (os : List (Option MemberTree)). slice_get os l) are.2) ∙ slice_get-map (slice_get types) are.0 l ∙ ap (option_map (slice_get types)) at ∙ ap (λ (o : Option MemberTree). Some o) there

      by : (o : Option MemberTree) → slice_get sorted l ≡ o → o ≡ Some m
      by (Some n) e = same_Some (Some n) (Some m) (sym (ap (option_map (λ (n : MemberTree). Some n)) e) ∙ whole)
      by None e = absurd (let f : None ≡ Some (Some m) = sym (ap (option_map (λ (n : MemberTree). Some n)) e) ∙ whole in cc)

  first_is : AreDependenciesFirst (length (map type_entry types)) (NeedsIn (map type_entry types)) [] are.0
  first_is = are.1.is_order.first

  -- all are there
  pub has_sorted : (m : MemberTree) → Has types m → Has sorted m
  has_sorted m (p, at) =
      let size : length (map type_entry types) ≡ length types = length-map types type_entry in
      let below : p < length types = slice_get_within types p m at in
      let h = placed are.0 p (are.1.is_order.all p (omega (arith, size, below))) in
      (h.0, at_order h.0 p m h.1 at)

  -- the names that stand in one are names of those before it
  pub named_before : (k : ℕ) (m : MemberTree) (x : Slice) → slice_get sorted k ≡ Some m → Has (names_in_member m.kind) x → Has (member_names types) x.text → Has (member_names (take k sorted)) x.text
  named_before k m x at has named =
      let s = sorted_at k m at in
      let labels_are : labels (map type_entry types) ≡ member_names types = map-map (λ (e : Entry). e.label.text) type_entry types in
      let place = named_place (member_names types) x.text named in
      let need : NeedsIn (map type_entry types) s.0 place.0 = record {
        one = type_entry m;
        there = slice_get-map type_entry types s.0 ∙ ap (option_map type_entry) s.2;
        name = x;
        named = listed (names_in_member m.kind) x has;
        place = ap (place_of x.text) labels_are ∙ place.1;
      } in
      let named_at : slice_get (member_names types) place.0 ≡ Some x.text = place_names x.text (member_names types) place.0 place.1 in
      elim (needed_before (length (map type_entry types)) (NeedsIn (map type_entry types)) [] are.0 first_is k s.0 place.0 s.1 need) as (λ _. Has (member_names (take k sorted)) x.text) [
        | inl none ↦ absurd none
        | inr before ↦
            let found = of_named (slice_get types place.0) refl named_at in
            let at_l : slice_get sorted before.0 ≡ Some found.0 = at_order before.0 place.0 found.0 before.2 found.1 in
            subst (λ (y : Name). Has (member_names (take k sorted)) y) found.2 (has_map (λ (n : MemberTree). n.name.text) (take k sorted) found.0 (before.0, taken_at sorted before.0 k found.0 before.1 at_l))
      ]
    where
      of_named : (o : Option MemberTree) → slice_get types (named_place (member_names types) x.text named).0 ≡ o → slice_get (member_names types) (named_place (member_names types) x.text named).0 ≡ Some x.text → (n : MemberTree) × (o ≡ Some n) × (n.name.text ≡ x.text)
      of_named (Some n) e h = (n, refl, same_Some n.name.text x.text (sym (slice_get-map (λ (z : MemberTree). z.name.text) types (named_place (member_names types) x.text named).0 ∙ ap (option_map (λ (z : MemberTree). z.name.text)) e) ∙ h))
      of_named None e h = absurd (let f : None ≡ Some x.text = sym (slice_get-map (λ (z : MemberTree). z.name.text) types (named_place (member_names types) x.text named).0 ∙ ap (option_map (λ (z : MemberTree). z.name.text)) e) ∙ h in cc)

  -- no two have one name, where no two types have
  pub sorted_distinct : ((i j : ℕ) (m n : MemberTree) → slice_get types i ≡ Some m → slice_get types j ≡ Some n → m.name.text ≡ n.name.text → i ≡ j)
      → (k l : ℕ) (m n : MemberTree) → slice_get sorted k ≡ Some m → slice_get sorted l ≡ Some n → m.name.text ≡ n.name.text → k < l → ⊥
  sorted_distinct distinct k l m n at_k at_l same less =
      let s = sorted_at k m at_k in
      let t = sorted_at l n at_l in
      let one : s.0 ≡ t.0 = distinct s.0 t.0 m n s.2 t.2 same in
      once (length (map type_entry types)) (NeedsIn (map type_entry types)) [] are.0 first_is k l s.0 less s.1 (t.1 ∙ ap (λ (z : ℕ). Some z) (sym one))
