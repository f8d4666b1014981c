-- What a world that imports in the end what it and its exports depend on has among its imports.
use Rattle.std.proofs.Common.{◌≡◌, ℕ, Bool, true, false, List, [], ◌∷◌, ◌++◌, ◌⊎◌, inl, inr, Some, String, refl, sym, subst, ap, ◌∙◌}
use Rattle.std.proofs.lemmas.Bool.{eqb-true}
use Rattle.std.specs.Map.{lookup}
use Rattle.std.specs.Prelude.{map, flat_map, nat_eq, if◌then◌else◌, unwrap_or}
use Rattle.std.specs.declared.alloc.Global.{Global}
use Rattle.wit_order.specs.Order.{Has}
use Rattle.wit_order.specs.Places.{Rows}
use Rattle.wit_words.specs.declared.source_map.Span.{Span}
use Rattle.wit_types.specs.declared.interface.Interface.{Interface}
use Rattle.wit_types.specs.declared.interface.TypeDef.{TypeDef}
use Rattle.wit_types.specs.declared.stability.Stability.{Stability}
use Rattle.wit_types.specs.declared.world.World.{World}
use Rattle.wit_types.specs.declared.world.WorldItem.{WorldItem}
use Rattle.wit_types.specs.declared.world.WorldItem.TheVariants as item
use Rattle.wit_types.specs.declared.world_key.WorldKey.{WorldKey}
use Rattle.wit_types.specs.declared.world_key.WorldKey.TheVariants as key
use Rattle.wit_types.specs.WorldKey.{key_eq}
use Rattle.wit_reach.specs.Deps.{AreUsed}
use Rattle.wit_reach.specs.Ids.{item_ids, side_ids}
use Rattle.wit_reach.specs.Lists.{item_type, type_items, item_types, item_interface, labelled, labelled_in}
use Rattle.wit_reach.specs.Reach.{Uses}
use Rattle.wit_reach.specs.Types.{IsOfItem}
use Rattle.wit_reach.proofs.Ends.{reaches_more}
use Rattle.wit_reach.proofs.Holding.{has_mapped, mapped_has, has_flat, flat_has}
use Rattle.wit_elaborated.specs.Elaborated.{Entry, implied, imported, plain, plain_entries}
use Rattle.wit_elaborated.specs.Worlds.{IsKeyOfItem, AreKeysOfItems, IsElaboratedWorld}

-- ---- lists

entry_parts : (xs ys : List Entry) (e : Entry) → Has (xs ++ ys) e → Has xs e ⊎ Has ys e
entry_parts [] ys e h = inr h
entry_parts (x ∷ xs) ys e (inl here) = inl (inl here)
entry_parts (x ∷ xs) ys e (inr later) = elim (entry_parts xs ys e later) as (λ _. Has (x ∷ xs) e ⊎ Has ys e) [ inl a ↦ inl (inr a) | inr b ↦ inr b ]

entry_first : (xs ys : List Entry) (e : Entry) → Has xs e → Has (xs ++ ys) e
entry_first [] ys e h = absurd h
entry_first (x ∷ xs) ys e (inl here) = inl here
entry_first (x ∷ xs) ys e (inr later) = inr (entry_first xs ys e later)

entry_second : (xs ys : List Entry) (e : Entry) → Has ys e → Has (xs ++ ys) e
entry_second [] ys e h = h
entry_second (x ∷ xs) ys e h = inr (entry_second xs ys e h)

-- what has a plain name is listed under that
pub plain_listed : (es : List Entry) (e : Entry) → Has (plain_entries es) e → Has es e
plain_listed [] e h = absurd h
plain_listed ((key.Name n, x) ∷ es) e (inl here) = inl here
plain_listed ((key.Name n, x) ∷ es) e (inr later) = inr (plain_listed es e later)
plain_listed ((key.Interface i, x) ∷ es) e h = inr (plain_listed es e h)

-- and has no interface for its key
pub plain_is_named : (es : List Entry) (i : ℕ) (x : WorldItem) → Has (plain_entries es) (key.Interface i, x) → ⊥
plain_is_named [] i x h = h
plain_is_named ((key.Name n, y) ∷ es) i x (inl here) = (let e : key.Interface i ≡ key.Name n = ap (λ (z : Entry). z.0) here in cc)
plain_is_named ((key.Name n, y) ∷ es) i x (inr later) = plain_is_named es i x later
plain_is_named ((key.Interface j, y) ∷ es) i x h = plain_is_named es i x h

-- under a label it has a plain name
label_is_plain : (es : List Entry) (n : String Global) (x : WorldItem) → Has es (key.Name n, x) → Has (plain_entries es) (key.Name n, x)
label_is_plain [] n x h = absurd h
label_is_plain ((key.Name m, y) ∷ es) n x (inl here) = inl here
label_is_plain ((key.Name m, y) ∷ es) n x (inr later) = inr (label_is_plain es n x later)
label_is_plain ((key.Interface j, y) ∷ es) n x (inl here) = absurd (let e : key.Name n ≡ key.Interface j = ap (λ (z : Entry). z.0) here in cc)
label_is_plain ((key.Interface j, y) ∷ es) n x (inr later) = label_is_plain es n x later

labelled_listed : (es : List Entry) (e : Entry) (i : ℕ) → Has es e → Has (labelled e) i → Has (labelled_in es) i
labelled_listed es e i has h = flat_has labelled es e i has h

-- ---- items

-- what stands under an interface, if something does, is that
imported_item : (i : ℕ) (es : List Entry) (x : WorldItem) → AreKeysOfItems es → item_interface x ≡ i ∷ [] → item_interface (unwrap_or (lookup (key_eq (key.Interface i)) es) x) ≡ i ∷ []
imported_item i [] x k e = e
imported_item i ((key.Name n, y) ∷ es) x k e = imported_item i es x k.1 e
imported_item i ((key.Interface j, y) ∷ es) x k e = by_cases (nat_eq i j) refl (imported_item i es x k.1 e)
  where
    by_cases : (b : Bool) → nat_eq i j ≡ b → item_interface (unwrap_or (lookup (key_eq (key.Interface i)) es) x) ≡ i ∷ [] → item_interface (unwrap_or (if b then Some y else lookup (key_eq (key.Interface i)) es) x) ≡ i ∷ []
    by_cases true same later = subst (λ (n : ℕ). item_interface y ≡ n ∷ []) (sym (eqb-true i j same)) k.0
    by_cases false other later = later

-- that interface
is_interface : (x : WorldItem) (i : ℕ) → item_interface x ≡ i ∷ [] → (stability : Stability) × (span : Span) × (x ≡ item.Interface i stability span)
is_interface (item.Interface id stability span) i e = (stability, span, ap (λ (k : ℕ). item.Interface k stability span) (cc))
is_interface (item.Function f) i e = absurd cc
is_interface (item.TypeItem id span) i e = absurd cc

no_ids : (x : WorldItem) (i : ℕ) → item_interface x ≡ i ∷ [] → item_ids x ≡ []
no_ids (item.Interface id stability span) i e = refl
no_ids (item.Function f) i e = absurd cc
no_ids (item.TypeItem id span) i e = absurd cc

no_type : (x : WorldItem) (i : ℕ) → item_interface x ≡ i ∷ [] → item_type x ≡ []
no_type (item.Interface id stability span) i e = refl
no_type (item.Function f) i e = absurd cc
no_type (item.TypeItem id span) i e = absurd cc

one_of : (j i : ℕ) → Has (j ∷ []) i → i ≡ j
one_of j i h = elim h as (λ _. i ≡ j) [ inl e ↦ e | inr none ↦ absurd none ]

-- what stands under an interface is that
key_item : (es : List Entry) → AreKeysOfItems es → (j : ℕ) (x : WorldItem) → Has es (key.Interface j, x) → item_interface x ≡ j ∷ []
key_item [] ks j x h = absurd h
key_item (e ∷ es) ks j x (inl here) = subst IsKeyOfItem (sym here) ks.0
key_item (e ∷ es) ks j x (inr later) = key_item es ks.1 j x later

-- ---- a world

module _ (types : List TypeDef) (interfaces : List Interface) (uses : Rows) (world found : World) (keys : AreKeysOfItems world.imports.entries) (was : IsElaboratedWorld types interfaces uses world found) where
  abbrev pub listed : List Entry
  listed = world.imports.entries

  abbrev pub at : ℕ → Entry
  at i = (key.Interface i, imported interfaces listed i)

  at_is : (i : ℕ) → item_interface (imported interfaces listed i) ≡ i ∷ []
  at_is i = imported_item i listed (implied interfaces i) keys refl

  -- it comes of the order, or is listed under a plain name
  pub of_import : (e : Entry) → Has found.imports.entries e → ((i : ℕ) × Has was.order i × (e ≡ at i)) ⊎ Has (plain_entries listed) e
  of_import e h = elim (entry_parts (map at was.order) (plain_entries listed) e (subst (λ (es : List Entry). Has es e) was.imports h)) as (λ _. ((i : ℕ) × Has was.order i × (e ≡ at i)) ⊎ Has (plain_entries listed) e) [
    | inl a ↦ inl (of_order was.order a)
    | inr b ↦ inr b
  ]
    where
      of_order : (order : List ℕ) → Has (map at order) e → (i : ℕ) × Has order i × (e ≡ at i)
      of_order [] h = absurd h
      of_order (i ∷ is) (inl here) = (i, inl refl, here)
      of_order (i ∷ is) (inr later) = (let r = of_order is later in (r.0, inr r.1, r.2))

  -- ---- interfaces

  -- what is imported in the end is
  order_shows : (i : ℕ) → Has was.order i → (stability : Stability) × (span : Span) × Has found.imports.entries (key.Interface i, item.Interface i stability span)
  order_shows i h =
      let x = is_interface (imported interfaces listed i) i (at_is i) in
      (x.0, x.1, subst (λ (y : WorldItem). Has found.imports.entries (key.Interface i, y)) x.2 (subst (λ (es : List Entry). Has es (at i)) (sym was.imports) (entry_first (map at was.order) (plain_entries listed) (at i) (there was.order h))))
    where
      there : (order : List ℕ) → Has order i → Has (map at order) (at i)
      there [] h = absurd h
      there (j ∷ is) (inl here) = inl (ap at here)
      there (j ∷ is) (inr later) = inr (there is later)

  -- the world imports it in the end, or under a label
  abbrev pub IsShown : ℕ → Type 0
  IsShown i = Has was.order i ⊎ Has (labelled_in listed) i

  pub shows : (k : WorldKey) (i : ℕ) (stability : Stability) (span : Span) → Has found.imports.entries (k, item.Interface i stability span) → IsShown i
  shows k i stability span h = elim (of_import (k, item.Interface i stability span) h) as (λ _. IsShown i) [
    | inl (j, has, is) ↦
        let same : item.Interface i stability span ≡ imported interfaces listed j = ap (λ (e : Entry). e.1) is in
        let one : i ∷ [] ≡ j ∷ [] = ap item_interface same ∙ at_is j in
        let e : i ≡ j = cc in
        inl (subst (Has was.order) (sym e) has)
    | inr b ↦ inr (by_key k b)
  ]
    where
      by_key : (k : WorldKey) → Has (plain_entries listed) (k, item.Interface i stability span) → Has (labelled_in listed) i
      by_key (key.Name n) b = labelled_listed listed (key.Name n, item.Interface i stability span) i (plain_listed listed (key.Name n, item.Interface i stability span) b) (inl refl)
      by_key (key.Interface j) b = absurd (plain_is_named listed j (item.Interface i stability span) b)

  -- so it's imported by some key
  pub shown : (i : ℕ) → IsShown i → (k : WorldKey) × (stability : Stability) × (span : Span) × Has found.imports.entries (k, item.Interface i stability span)
  shown i (inl ordered) = (let o = order_shows i ordered in (key.Interface i, o.0, o.1, o.2))
  shown i (inr label) = (let e = has_flat labelled listed i label in by_entry e.0 e.1 e.2)
    where
      by_item : (n : String Global) (x : WorldItem) → Has listed (key.Name n, x) → Has (item_interface x) i → (k : WorldKey) × (stability : Stability) × (span : Span) × Has found.imports.entries (k, item.Interface i stability span)
      by_item n (item.Interface id stability span) has h =
          let there : Has listed (key.Name n, item.Interface i stability span) = subst (λ (j : ℕ). Has listed (key.Name n, item.Interface j stability span)) (sym (one_of id i h)) has in
          let e : Entry = (key.Name n, item.Interface i stability span) in
          (key.Name n, stability, span, subst (λ (es : List Entry). Has es e) (sym was.imports) (entry_second (map at was.order) (plain_entries listed) e (label_is_plain listed n (item.Interface i stability span) there)))
      by_item n (item.Function f) has h = absurd h
      by_item n (item.TypeItem id span) has h = absurd h

      by_entry : (e : Entry) → Has listed e → Has (labelled e) i → (k : WorldKey) × (stability : Stability) × (span : Span) × Has found.imports.entries (k, item.Interface i stability span)
      by_entry (key.Name n, x) has h = by_item n x has h
      by_entry (key.Interface j, x) has h = absurd h

  -- and all of which it uses types
  pub shown_uses : (k j : ℕ) → IsShown k → Uses uses k j → Has was.order j
  shown_uses k j (inl ordered) u = (let s = was.elaboration.only k ordered in was.elaboration.all j (s.0, s.1, reaches_more (Uses uses) s.0 k j s.2 u))
  shown_uses k j (inr label) u = was.elaboration.all j (j, inr (inl ((was.listed.used j).1 (inr (k, label, u)))), ([], refl))

  -- ---- types and functions

  module _ (f : WorldItem → List ℕ) (none : (x : WorldItem) (i : ℕ) → item_interface x ≡ i ∷ [] → f x ≡ []) where
    of_listed : (i : ℕ) → Has (flat_map f (map (λ (e : Entry). e.1) found.imports.entries)) i → Has (flat_map f (map (λ (e : Entry). e.1) listed)) i
    of_listed i h =
        let x = has_flat f (map (λ (e : Entry). e.1) found.imports.entries) i h in
        let e = has_mapped (λ (y : Entry). y.1) found.imports.entries x.0 x.1 in
        elim (of_import e.0 e.1) as (λ _. Has (flat_map f (map (λ (y : Entry). y.1) listed)) i) [
          | inl (j, has, is) ↦
              let same : x.0 ≡ imported interfaces listed j = sym e.2 ∙ ap (λ (y : Entry). y.1) is in
              let empty : f x.0 ≡ [] = ap f same ∙ none (imported interfaces listed j) j (at_is j) in
              absurd (subst (λ (l : List ℕ). Has l i) empty x.2)
          | inr b ↦ flat_has f (map (λ (y : Entry). y.1) listed) x.0 i (subst (Has (map (λ (y : Entry). y.1) listed)) e.2 (mapped_has (λ (y : Entry). y.1) listed e.0 (plain_listed listed e.0 b))) x.2
        ]

  pub of_item : (i : ℕ) → IsOfItem found i → IsOfItem world i
  of_item i (inl a) = inl (of_listed item_ids no_ids i a)
  of_item i (inr b) = inr (subst (λ (w : World). Has (side_ids w.exports.entries) i) was.rest b)

  -- an interface of which types are used is imported in the end
  pub used_shown : (j : ℕ) → AreUsed types (item_types world) j → Has was.order j
  used_shown j used = was.elaboration.all j (j, inr (inl ((was.listed.used j).1 (inl used))), ([], refl))

  -- an import under an interface is that
  pub found_keys : AreKeysOfItems found.imports.entries
  found_keys = each found.imports.entries of_entry
    where
      each : (es : List Entry) → ((e : Entry) → Has es e → IsKeyOfItem e) → AreKeysOfItems es
      each [] all = tt
      each (e ∷ es) all = (all e (inl refl), each es (λ x h. all x (inr h)))

      of_entry : (e : Entry) → Has found.imports.entries e → IsKeyOfItem e
      of_entry (key.Name n, x) h = tt
      of_entry (key.Interface i, x) h = elim (of_import (key.Interface i, x) h) as (λ _. item_interface x ≡ i ∷ []) [
        | inl (j, has, is) ↦
            let k : key.Interface i ≡ key.Interface j = ap (λ (e : Entry). e.0) is in
            let same : i ≡ j = cc in
            ap (λ (e : Entry). item_interface e.1) is ∙ at_is j ∙ ap (λ (m : ℕ). m ∷ []) (sym same)
        | inr b ↦ absurd (plain_is_named listed i x b)
      ]

  -- what has a plain name is as the world lists it
  pub named_listed : (n : String Global) (x : WorldItem) → Has found.imports.entries (key.Name n, x) → Has listed (key.Name n, x)
  named_listed n x h = elim (of_import (key.Name n, x) h) as (λ _. Has listed (key.Name n, x)) [
    | inl (i, has, is) ↦ absurd (let e : key.Name n ≡ key.Interface i = ap (λ (z : Entry). z.0) is in cc)
    | inr b ↦ plain_listed listed (key.Name n, x) b
  ]

  -- types are imported under their plain names
  pub type_found : (k : ℕ) → Has (type_items listed) k → (y : String Global) × (span : Span) × Has found.imports.entries (key.Name y, item.TypeItem k span)
  type_found k h =
      let x = has_flat item_type (map (λ (e : Entry). e.1) listed) k h in
      let e = has_mapped (λ (z : Entry). z.1) listed x.0 x.1 in
      by_item e.0.0 e.0.1 e.1 (subst (λ (z : WorldItem). Has (item_type z) k) (sym e.2) x.2)
    where
      under : (l : WorldKey) (span : Span) → Has listed (l, item.TypeItem k span) → (y : String Global) × (s : Span) × Has found.imports.entries (key.Name y, item.TypeItem k s)
      under (key.Name y) span has =
          let e : Entry = (key.Name y, item.TypeItem k span) in
          (y, span, subst (λ (es : List Entry). Has es e) (sym was.imports) (entry_second (map at was.order) (plain_entries listed) e (label_is_plain listed y (item.TypeItem k span) has)))
      under (key.Interface j) span has = absurd (let e : [] ≡ j ∷ [] = key_item listed keys j (item.TypeItem k span) has in cc)

      by_item : (l : WorldKey) (x : WorldItem) → Has listed (l, x) → Has (item_type x) k → (y : String Global) × (span : Span) × Has found.imports.entries (key.Name y, item.TypeItem k span)
      by_item l (item.Interface id stability span) has h = absurd h
      by_item l (item.Function f) has h = absurd h
      by_item l (item.TypeItem id span) has h = under l span (subst (λ (m : ℕ). Has listed (l, item.TypeItem m span)) (sym (one_of id k h)) has)
