-- As what something is asked for among other needs.
use Rattle.std.proofs.Common.{◌≡◌, Bool, true, false, ◌&&◌, ◌⊎◌, inl, inr, List, [], ◌∷◌, ◌++◌, Option, Some, None, refl, sym, subst, ap, ◌∙◌, option_map, ℕ, ◌+◌, ◌<◌, cond, append_assoc, get_or, length, map, take}
use Rattle.std.proofs.lemmas.Bool.{and_parts}
use Rattle.std.proofs.lemmas.Slice.Eq.{bytes_eq-Decides}
use Rattle.std.proofs.lemmas.List.{get_or_default}
use Rattle.std.proofs.lemmas.Option.{same_Some}
use Rattle.std.specs.Prelude.{flat_map}
use Rattle.wit_words.specs.Slice.{Slice}
use Rattle.wit_syntax.specs.Ast.{PackageNameTree, ToplevelUseTree}
use Rattle.wit_scopes.specs.Paths.{TargetTree, own, foreign, by_itself, same_text, same_version, same_package}
use Rattle.wit_checked_lookups.specs.Passed.wit_lookups-declared-asks-Asked.{Asked}
use Rattle.wit_checked_lookups.specs.Passed.wit_lookups-declared-asks-Asked-TheVariants.{Interface, World}
use Rattle.wit_types.specs.declared.«package».AstItem.{AstItem}
use Rattle.wit_scopes.proofs.Lists.{flat_map-more}
use Rattle.wit_arena.specs.Tree.{Name, PackageText, Place, in_interface, in_world, in_listed, Owner}
use Rattle.wit_arena.specs.Meaning.{Has, package_text}
use Rattle.wit_arena.proofs.Lists.{has_none, has_here, has_later, has_cases, has_right}
use Rattle.wit_placeholders.specs.Passed.wit_foreign-Needs.{NeedTree, AreUses, path_needs}
use Rattle.wit_placeholders.specs.Passed.wit_foreign-Items.{Items, place_asked, owner_asked, need_owner, AreItemsOf}
use Rattle.wit_placeholders.specs.Passed.wit_package_types-Stability.{AreGates}
use Rattle.wit_rules.specs.Gates.{ungated}
use Rattle.wit_placeholders.specs.Passed.wit_foreign-Deps.{HaveGates}
use Rattle.wit_package.specs.TopUses.{is_world, asks_for_world, asked_among, asked_in, top_needs, files_top_needs, with_top_uses}

-- ---- by test and by texts

version_is : (v w : Option Slice) → same_version v w ≡ true → option_map (λ (s : Slice). s.text) v ≡ option_map (λ (s : Slice). s.text) w
version_is None None h = refl
version_is None (Some w) h = absurd cc
version_is (Some v) None h = absurd cc
version_is (Some v) (Some w) h = ap (λ (x : List ℕ). Some x) ((bytes_eq-Decides v.text w.text).0 h)

version_tests : (v w : Option Slice) → option_map (λ (s : Slice). s.text) v ≡ option_map (λ (s : Slice). s.text) w → same_version v w ≡ true
version_tests None None h = refl
version_tests None (Some w) h = absurd cc
version_tests (Some v) None h = absurd cc
version_tests (Some v) (Some w) h = (bytes_eq-Decides v.text w.text).1 (same_Some v.text w.text h)

both : (a b : Bool) → a ≡ true → b ≡ true → (a && b) ≡ true
both true true h k = refl
both true false h k = k
both false b h k = h

package_is : (p q : PackageNameTree) → same_package p q ≡ true → package_text p ≡ package_text q
package_is p q h =
    let a = and_parts (same_text p.namespace q.namespace && same_text p.name q.name) (same_version p.version q.version) h in
    let b = and_parts (same_text p.namespace q.namespace) (same_text p.name q.name) a.0 in
    rw ((bytes_eq-Decides p.namespace.text q.namespace.text).0 b.0, (bytes_eq-Decides p.name.text q.name.text).0 b.1, version_is p.version q.version a.1) refl

package_tests : (p q : PackageNameTree) → package_text p ≡ package_text q → same_package p q ≡ true
package_tests p q h =
    both (same_text p.namespace q.namespace && same_text p.name q.name) (same_version p.version q.version)
    (both (same_text p.namespace q.namespace) (same_text p.name q.name) ((bytes_eq-Decides p.namespace.text q.namespace.text).1 (ap (λ (t : PackageText). t.namespace) h)) ((bytes_eq-Decides p.name.text q.name.text).1 (ap (λ (t : PackageText). t.name) h)))
    (version_tests p.version q.version (ap (λ (t : PackageText). t.version) h))

world_is : (a : Asked) → is_world a ≡ true → a ≡ World
world_is Interface h = absurd cc
world_is World h = refl

abbrev place_name : Place → Name
place_name (in_interface x) = x
place_name (in_world x) = x
place_name (in_listed w s x) = x

place_world : (a : Asked) (x y : Name) → place_asked a x ≡ in_world y → (is_world a ≡ true) × (x ≡ y)
place_world Interface x y h = absurd cc
place_world World x y h = (refl, ap place_name h)

-- a need is of that item as a world by test where it is by texts
pub world_by_texts : (p : PackageNameTree) (i : Slice) (n : NeedTree) → asks_for_world p i n ≡ true → need_owner n ≡ owner_asked p i World
world_by_texts p i n h =
    let a = and_parts (same_package p n.«package») (same_text i n.item && is_world n.asked) h in
    let b = and_parts (same_text i n.item) (is_world n.asked) a.1 in
    let w : n.asked ≡ World = world_is n.asked b.1 in
    let t : n.item.text ≡ i.text = sym ((bytes_eq-Decides i.text n.item.text).0 b.0) in
    let q : package_text n.«package» ≡ package_text p = sym (package_is p n.«package» a.0) in
    rw (q, w, t) refl

pub world_by_test : (p : PackageNameTree) (i : Slice) (n : NeedTree) → need_owner n ≡ owner_asked p i World → asks_for_world p i n ≡ true
world_by_test p i n h =
    let q : package_text p ≡ package_text n.«package» = sym (ap (λ (w : Owner). w.package_text) h) in
    let w = place_world n.asked n.item.text i.text (ap (λ (v : Owner). v.place) h) in
    both (same_package p n.«package») (same_text i n.item && is_world n.asked) (package_tests p n.«package» q)
    (both (same_text i n.item) (is_world n.asked) ((bytes_eq-Decides i.text n.item.text).1 (sym w.1)) w.0)

either : (b : Bool) → (b ≡ true) ⊎ (b ≡ false)
either true = inl refl
either false = inr refl

-- ---- as what it is asked for

module _ (p : PackageNameTree) (i : Slice) where
  pub as_world : (ns : List NeedTree) (n : NeedTree) → Has ns n → need_owner n ≡ owner_asked p i World → asked_among p i ns ≡ World
  as_world [] n has is = absurd (has_none n has)
  as_world (m ∷ ns) n has is =
      elim (either (asks_for_world p i m)) as (λ _. asked_among p i (m ∷ ns) ≡ World) [
        | inl is_one ↦ ap (λ (b : Bool). cond b World (asked_among p i ns)) is_one
        | inr isnt ↦ ap (λ (b : Bool). cond b World (asked_among p i ns)) isnt ∙ elim (has_cases m ns n has) as (λ _. asked_among p i ns ≡ World) [
          | inl here ↦ absurd (let e : asks_for_world p i m ≡ true = world_by_test p i m (subst (λ (z : NeedTree). need_owner z ≡ owner_asked p i World) here is) in cc)
          | inr later ↦ as_world ns n later is
        ]
      ]

  pub as_interface : (ns : List NeedTree) → ((n : NeedTree) → Has ns n → need_owner n ≡ owner_asked p i World → ⊥) → asked_among p i ns ≡ Interface
  as_interface [] h = refl
  as_interface (m ∷ ns) h =
      elim (either (asks_for_world p i m)) as (λ _. asked_among p i (m ∷ ns) ≡ Interface) [
        | inl is_one ↦ absurd (h m (has_here m ns) (world_by_texts p i m is_one))
        | inr isnt ↦ ap (λ (b : Bool). cond b World (asked_among p i ns)) isnt ∙ as_interface ns (λ n has. h n (has_later m ns n has))
      ]

  module _ (needs : List NeedTree) (items : Items) (are : AreItemsOf needs items) where
    pub found_as_world : (x : AstItem) → Has items (owner_asked p i World, x) → asked_among p i needs ≡ World
    found_as_world x has = (let r = are.needed (owner_asked p i World) x has in as_world needs r.0 r.1 r.2)

    pub else_interface : ((x : AstItem) → Has items (owner_asked p i World, x) → ⊥) → asked_among p i needs ≡ Interface
    else_interface none = as_interface needs (λ n has is. (let r = are.there n has in none r.0 (subst (λ (w : Owner). Has items (w, r.0)) is r.1)))

-- ---- what all of them ask

-- no gates may stand together
ungated_there : AreGates []
ungated_there = (ungated, refl, tt)

module _ {Y : Type 0} (P : Y → Type 0) where
  has_both : (xs ys : List Y) → ((y : Y) → Has xs y → P y) → ((y : Y) → Has ys y → P y) → (y : Y) → Has (xs ++ ys) y → P y
  has_both [] ys h k y has = k y has
  has_both (x ∷ xs) ys h k y has =
      elim (has_cases x (xs ++ ys) y has) as (λ _. P y) [
        | inl here ↦ subst P (sym here) (h x (has_here x xs))
        | inr later ↦ has_both xs ys (λ z was. h z (has_later x xs z was)) k y later
      ]

  has_all : {X : Type 0} (f : X → List Y) → ((x : X) (y : Y) → Has (f x) y → P y) → (xs : List X) (y : Y) → Has (flat_map f xs) y → P y
  has_all f each [] y has = absurd (has_none y has)
  has_all f each (x ∷ xs) y has = has_both (f x) (flat_map f xs) (each x) (has_all f each xs) y has

path_asks : (P : NeedTree → Type 0) (asked : Asked) (t : TargetTree)
    → ((p : PackageNameTree) (i : Slice) → P (record { «package» = p; item = i; asked = asked; name = None; attributes = [] })) → (n : NeedTree) → Has (path_needs asked None [] t) n → P n
path_asks P asked (own x) h n has = absurd (has_none n has)
path_asks P asked (foreign p i) h n has =
    elim (has_cases (record { «package» = p; item = i; asked = asked; name = None; attributes = [] }) [] n has) as (λ _. P n) [
      | inl here ↦ subst P (sym here) (h p i)
      | inr later ↦ absurd (has_none n later)
    ]

module _ (me : PackageNameTree) (uses : List (List ToplevelUseTree)) (needs : List NeedTree) where
  of_all : (P : NeedTree → Type 0) → ((asked : Asked) (p : PackageNameTree) (i : Slice) → P (record { «package» = p; item = i; asked = asked; name = None; attributes = [] }))
      → ((n : NeedTree) → Has needs n → P n) → (n : NeedTree) → Has (with_top_uses me uses needs) n → P n
  of_all P top =
      has_both P (files_top_needs me needs uses) needs
      (has_all P (λ (us : List ToplevelUseTree). flat_map (top_needs me needs) us) (has_all P (top_needs me needs) (λ u. path_asks P (asked_in needs (by_itself me u.item)) (by_itself me u.item) (top (asked_in needs (by_itself me u.item))))) uses)

  -- they use no types
  pub all_uses : AreUses needs → AreUses (with_top_uses me uses needs)
  all_uses h n y has named = of_all (λ (m : NeedTree). (z : Slice) → m.name ≡ Some z → m.asked ≡ Interface) (λ asked p i z e. absurd cc) (λ m was z e. h m z was e) n has y named

  -- and have no gates
  pub all_gates : HaveGates needs → HaveGates (with_top_uses me uses needs)
  all_gates h = of_all (λ (m : NeedTree). AreGates m.attributes) (λ asked p i. ungated_there) h

  -- what is asked for besides is among them
  pub asked_still : (n : NeedTree) → Has needs n → Has (with_top_uses me uses needs) n
  asked_still n has = has_right (files_top_needs me needs uses) needs n has

-- ---- rows of statements

-- one more, as code reads it at its place
pub row_more : {X Y Z : Type 0} (f : Y → List Z) (view : X → Y) (old : List Z) (xs : List X) (k : ℕ) (d : X) (now before : List Z) → k < length xs → now ≡ before ++ f (view (get_or xs k d)) → before ≡ old ++ flat_map f (map view (take k xs))
    → now ≡ old ++ flat_map f (map view (take (k + 1) xs))
row_more {X} {Y} {Z} f view old xs k d now before within added so_far =
    added ∙ ap (λ (zs : List Z). zs ++ f (view (get_or xs k d))) so_far ∙ append_assoc old (flat_map f (map view (take k xs))) (f (view (get_or xs k d)))
    ∙ ap (λ (zs : List Z). old ++ zs) (sym (flat_map-more f view xs k (get_or xs k d) within (get_or_default xs k d (get_or xs k d) within)))
