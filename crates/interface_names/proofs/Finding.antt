-- Texts of keys, found core import by core import, and then import by import.
use Rattle.std.proofs.Common.{◌≡◌, ℕ, zero, suc, ◌+◌, ◌<◌, ◌⊎◌, Bool, true, false, List, [], ◌∷◌, ◌++◌, length, get_or, set, take, drop, Option, Some, None, inl, inr, refl, sym, subst, ap, ◌∙◌}
use Rattle.std.proofs.lemmas.Bool.Decides.{eqb_tells}
use Rattle.std.proofs.lemmas.Map.Entries.{lookup_from_place}
use Rattle.std.proofs.lemmas.List.{get_or-set_same, get_or-set_other, length-map, length-set, take-append-drop, take_more}
use Rattle.std.proofs.lemmas.Option.{same_Some, slice_get_within, get_or_from_slice_get}
use Rattle.std.proofs.Math.ListN.{get_or-map}
use Rattle.std.specs.List.{IsDistinct}
use Rattle.std.specs.Map.{keys_of}
use Rattle.std.specs.Prelude.{slice_get, option_map}
use Rattle.wasm_types.specs.Entries.{ImportValue}
use Rattle.wit_order.specs.Order.{Has}
use Rattle.wit_words.specs.declared.source_map.Span.{Span}
use Rattle.wit_types.specs.Package.{interface_text}
use Rattle.wit_types.specs.WorldKey.{key_eq, key_eq-equivalence}
use Rattle.wit_types.specs.declared.function.Function.{Function}
use Rattle.wit_types.specs.declared.interface.Interface.{Interface}
use Rattle.wit_types.specs.declared.stability.Stability.{Stability}
use Rattle.wit_types.specs.declared.world.WorldItem.{WorldItem}
use Rattle.wit_types.specs.declared.world.WorldItem.TheVariants as item
use Rattle.wit_types.specs.declared.world_key.WorldKey.{WorldKey}
use Rattle.wit_types.specs.declared.world_key.WorldKey.TheVariants as key
use Rattle.wit_types.specs.declared.«package».Package.{Package}
use Rattle.wit_names.specs.Names.{IsKeyText, text_of}
use Rattle.wit_reach.proofs.Holding.{got}
use Rattle.wit_core_names.specs.Items.{CoreImport}
use Rattle.wit_core_names.specs.declared.items.ResourceIntrinsic.{ResourceIntrinsic}
use Rattle.wit_core_names.specs.declared.items.ResourceIntrinsic.TheVariants.{ImportedDrop}
use Rattle.wit_core_items.specs.World.{core_imports}
use Rattle.wit_core_items.specs.ImportPlaces.{own_import, interface_import, import_of_function}
use Rattle.wit_core_items.specs.Places.{Entry, own_function, function_in}
use Rattle.wit_core_items.specs.declared.import_places.ImportPlace.{ImportPlace}
use Rattle.wit_core_items.specs.declared.import_places.ImportPlace.TheVariants.{OwnFunction, InterfaceFunction, OwnDrop, InterfaceDrop, ExportedIntrinsic}
use Rattle.core_links.specs.Names.{Names}
use Rattle.core_links.specs.Imports.{StandsFor, StandsAt}
use Rattle.core_links.specs.Needed.{IsKeyOf}
use Rattle.linked_types.proofs.Walks.{has_one_more, has_at}
use Rattle.linked_worlds.proofs.Passed.type_sinks-Names.{has_before, has_last}
use Rattle.linked_worlds.specs.Passed.right_components-Outside.{IsTextOf, IsImportedUnder}
use Rattle.interface_names.specs.Names.{IsNeededUnder, HasTwoNames, AreNamesById}
use Rattle.interface_names.specs.Found.{Texts, text_at, AreNone, Puts, first, again, another, PutsKey, its_text, no_text, PutsEntry, PutsPlace, AreFound, IsFilledAt, AreFilled, text_or_empty, or_empty}

-- ---- a key has one text

one_found : (packages : List Package) (interfaces : List Interface) (k : WorldKey) (a b : Option (List ℕ)) → IsKeyText interface_text packages interfaces k a → IsKeyText interface_text packages interfaces k b → a ≡ b
one_found packages interfaces (key.Name name) a b x y = x ∙ sym y
one_found packages interfaces (key.Interface i) a b x y =
    (let same : x.0 ≡ y.0 = same_Some x.0 y.0 (sym x.1 ∙ y.1) in
    x.2 ∙ ap (text_of interface_text packages) same ∙ sym y.2)

pub one_text : (n : Names) (k : WorldKey) (a b : List ℕ) → IsTextOf n k a → IsTextOf n k b → a ≡ b
one_text n k a b x y = same_Some a b (one_found n.known.packages n.known.interfaces k (Some a) (Some b) x y)

taken_more : {X : Type 0} (xs : List X) (k : ℕ) (x : X) → slice_get xs k ≡ Some x → take (k + 1) xs ≡ take k xs ++ x ∷ []
taken_more xs k x at = take_more xs k x (slice_get_within xs k x at) ∙ ap (λ y. take k xs ++ y ∷ []) (get_or_from_slice_get xs k x x at)

-- ---- what a core import stands for

-- it is a function of the interface that stands there
record IsFunctionThere (n : Names) (entry : ℕ) (x : CoreImport) : Type 0 where
  own : WorldKey
  id : ℕ
  stability : Stability
  span : Span
  at : slice_get n.world.imports.entries entry ≡ Some (own, item.Interface id stability span)
  function : Function
  is : x ≡ CoreImport.func (Some own) function

of_interface : (n : Names) (entry j : ℕ) (x : CoreImport) → interface_import n.known j (slice_get n.world.imports.entries entry) ≡ Some x → IsFunctionThere n entry x
of_interface n entry j x is = by (slice_get n.world.imports.entries entry) refl is
  where
    found : (k : WorldKey) (id : ℕ) (s : Stability) (at : Span) → slice_get n.world.imports.entries entry ≡ Some (k, item.Interface id s at) → (o : Option Function) → import_of_function (Some k) o ≡ Some x → IsFunctionThere n entry x
    found k id s at there None e = absurd cc
    found k id s at there (Some f) e = record { own = k; id = id; stability = s; span = at; at = there; function = f; is = sym (same_Some (CoreImport.func (Some k) f) x e) }

    by : (o : Option Entry) → slice_get n.world.imports.entries entry ≡ o → interface_import n.known j o ≡ Some x → IsFunctionThere n entry x
    by None there e = absurd cc
    by (Some (k, item.Interface id s at)) there e = found k id s at there (function_in n.known (item.Interface id s at) j) e
    by (Some (k, item.Function f)) there e = absurd cc
    by (Some (k, item.TypeItem id at)) there e = absurd cc

-- what stands elsewhere is no function of an interface
elsewhere : (n : Names) (x : CoreImport) (entry : ℕ) → own_import (slice_get n.world.imports.entries entry) ≡ Some x → (k : WorldKey) (f : Function) → x ≡ CoreImport.func (Some k) f → ⊥
elsewhere n x entry is k f same = by (slice_get n.world.imports.entries entry) is
  where
    of : (o : Option Function) → import_of_function None o ≡ Some x → ⊥
    of None e = cc
    of (Some g) e = (let both : CoreImport.func None g ≡ CoreImport.func (Some k) f = same_Some (CoreImport.func None g) x e ∙ same in cc)

    by : (o : Option Entry) → own_import o ≡ Some x → ⊥
    by None e = cc
    by (Some e) is = of (own_function e.1) is

-- nor is what is done with a resource
own_drop : (r : ℕ) (x : CoreImport) → Some (CoreImport.intrinsic None r ImportedDrop) ≡ Some x → (k : WorldKey) (f : Function) → x ≡ CoreImport.func (Some k) f → ⊥
own_drop r x is k f same = (let both : CoreImport.intrinsic None r ImportedDrop ≡ CoreImport.func (Some k) f = same_Some (CoreImport.intrinsic None r ImportedDrop) x is ∙ same in cc)

intrinsic : (r : ℕ) (what : ResourceIntrinsic) (o : Option Entry) (x : CoreImport) → option_map (λ (e : Entry). CoreImport.intrinsic (Some e.0) r what) o ≡ Some x → (k : WorldKey) (f : Function) → x ≡ CoreImport.func (Some k) f → ⊥
intrinsic r what None x is k f same = cc
intrinsic r what (Some e) x is k f same = (let both : CoreImport.intrinsic (Some e.0) r what ≡ CoreImport.func (Some k) f = same_Some (CoreImport.intrinsic (Some e.0) r what) x is ∙ same in cc)

-- ---- a key has one item

has_place : (es : List Entry) (x : Entry) → Has es x → (i : ℕ) × (slice_get es i ≡ Some x)
has_place [] x h = absurd h
has_place (e ∷ es) x (inl is) = (zero, ap (λ (y : Entry). Some y) (sym is))
has_place (e ∷ es) x (inr h) = (let r = has_place es x h in (suc r.0, r.1))

one_item : (es : List Entry) (k : WorldKey) (a b : WorldItem) → IsDistinct key_eq (keys_of es) → Has es (k, a) → Has es (k, b) → a ≡ b
one_item es k a b apart has too =
    let i = has_place es (k, a) has in
    let j = has_place es (k, b) too in
    same_Some a b (sym (lookup_from_place key_eq-equivalence es i.0 k a apart i.1) ∙ lookup_from_place key_eq-equivalence es j.0 k b apart j.1)

module _ (n : Names) (apart : IsDistinct key_eq (keys_of n.world.imports.entries)) where
  abbrev Key : ℕ → WorldKey → Type 0
  Key id k = IsKeyOf n k id

  one_id : (k : WorldKey) (i j : ℕ) → IsKeyOf n k i → IsKeyOf n k j → i ≡ j
  one_id k i j a b = (let one : item.Interface i a.0 a.1 ≡ item.Interface j b.0 b.1 = one_item n.world.imports.entries k (item.Interface i a.0 a.1) (item.Interface j b.0 b.1) apart a.2 b.2 in cc)

  one_meaning : (i : ImportValue) (x y : CoreImport) → StandsFor n i x → StandsFor n i y → x ≡ y
  one_meaning i x y a b = same_Some x y (sym a.is ∙ ap (slice_get (core_imports n.known n.world)) (b.means.only a.place a.means.stands) ∙ b.is)

  under_more : (is : List ImportValue) (i : ImportValue) (id : ℕ) (text : List ℕ) → IsNeededUnder n is id text → IsNeededUnder n (is ++ i ∷ []) id text
  under_more is i id text u = record { key = u.key; is_key = u.is_key; function = u.function; needed = (u.needed.0, has_before is (i ∷ []) u.needed.0 u.needed.1, u.needed.2); text_is = u.text_is }

  -- the last one names it
  record IsLast (i : ImportValue) (id : ℕ) (text : List ℕ) : Type 0 where
    key : WorldKey
    is_key : IsKeyOf n key id
    function : Function
    stands : StandsFor n i (CoreImport.func (Some key) function)
    is : IsTextOf n key text

  under_or : (is : List ImportValue) (i : ImportValue) (id : ℕ) (text : List ℕ) → IsNeededUnder n (is ++ i ∷ []) id text → IsLast i id text ⊎ IsNeededUnder n is id text
  under_or is i id text u = elim (has_one_more is i u.needed.0 u.needed.1) as (λ _. IsLast i id text ⊎ IsNeededUnder n is id text) [
    | inl here ↦ inl (record { key = u.key; is_key = u.is_key; function = u.function; stands = subst (λ (x : ImportValue). StandsFor n x (CoreImport.func (Some u.key) u.function)) here u.needed.2; is = u.text_is })
    | inr was ↦ inr (record { key = u.key; is_key = u.is_key; function = u.function; needed = (u.needed.0, was, u.needed.2); text_is = u.text_is })
  ]

  module _ (is : List ImportValue) (i : ImportValue) (old new : Texts) where
    -- it adds no text
    kept : new ≡ old → ((id : ℕ) (text : List ℕ) → IsLast i id text → text_at old id ≡ Some text) → AreFound n is old → AreFound n (is ++ i ∷ []) new
    kept same there f = subst (AreFound n (is ++ i ∷ [])) (sym same) (record {
      so_many = f.so_many;
      are = λ id text. (
        (λ u. elim (under_or is i id text u) as (λ _. text_at old id ≡ Some text) [
          | inl last ↦ there id text last
          | inr was ↦ (f.are id text).0 was
        ]),
        λ at. under_more is i id text ((f.are id text).1 at),
      );
    })

    -- it stands for no function of an interface
    other : (x : CoreImport) → StandsFor n i x → ((k : WorldKey) (f : Function) → x ≡ CoreImport.func (Some k) f → ⊥) → new ≡ old → AreFound n is old → AreFound n (is ++ i ∷ []) new
    other x stands none same f = kept same (λ id text last. absurd (none last.key last.function (one_meaning i x (CoreImport.func (Some last.key) last.function) stands last.stands))) f

    -- or for one, under this key
    module _ (k : WorldKey) (id : ℕ) (g : Function) (is_key : IsKeyOf n k id) (stands : StandsFor n i (CoreImport.func (Some k) g)) where
      last_key : (j : ℕ) (text : List ℕ) (last : IsLast i j text) → last.key ≡ k
      last_key j text last = (let same : CoreImport.func (Some last.key) last.function ≡ CoreImport.func (Some k) g = one_meaning i (CoreImport.func (Some last.key) last.function) (CoreImport.func (Some k) g) last.stands stands in cc)

      last_id : (j : ℕ) (text : List ℕ) → IsLast i j text → j ≡ id
      last_id j text last = one_id k j id (subst (Key j) (last_key j text last) last.is_key) is_key

      last_text : (j : ℕ) (text : List ℕ) → IsLast i j text → IsTextOf n k text
      last_text j text last = subst (λ (l : WorldKey). IsTextOf n l text) (last_key j text last) last.is

      now_under : (text : List ℕ) → IsTextOf n k text → IsNeededUnder n (is ++ i ∷ []) id text
      now_under text its = record { key = k; is_key = is_key; function = g; needed = (i, has_last is i, stands); text_is = its }

      set_found : (text : List ℕ) → IsTextOf n k text → id < length old → text_at old id ≡ None → AreFound n is old → AreFound n (is ++ i ∷ []) (set old id (Some text))
      set_found text its within empty f = record {
        so_many = length-set old id (Some text) ∙ f.so_many;
        are = λ j found. (forth j found, back j found);
      }
        where
          same : text_at (set old id (Some text)) id ≡ Some text
          same = get_or-set_same old id (Some text) None within

          forth : (j : ℕ) (found : List ℕ) → IsNeededUnder n (is ++ i ∷ []) j found → text_at (set old id (Some text)) j ≡ Some found
          forth j found u = elim (under_or is i j found u) as (λ _. text_at (set old id (Some text)) j ≡ Some found) [
            | inl last ↦
                subst (λ (a : ℕ). text_at (set old id (Some text)) a ≡ Some found) (sym (last_id j found last))
                (same ∙ ap (λ (t : List ℕ). Some t) (one_text n k text found its (last_text j found last)))
            | inr was ↦ (
                let there = (f.are j found).0 was in
                get_or-set_other old id j (Some text) None (λ e. let none : None ≡ Some found = sym empty ∙ ap (text_at old) (sym e) ∙ there in absurd cc) ∙ there)
          ]

          back : (j : ℕ) (found : List ℕ) → text_at (set old id (Some text)) j ≡ Some found → IsNeededUnder n (is ++ i ∷ []) j found
          back j found e = elim (eqb_tells id j) as (λ _. IsNeededUnder n (is ++ i ∷ []) j found) [
            | inl is_it ↦
                subst (λ (a : ℕ). IsNeededUnder n (is ++ i ∷ []) a found) is_it.1
                (subst (IsNeededUnder n (is ++ i ∷ []) id) (same_Some text found (sym same ∙ ap (text_at (set old id (Some text))) is_it.1 ∙ e)) (now_under text its))
            | inr differs ↦ under_more is i j found ((f.are j found).1 (sym (get_or-set_other old id j (Some text) None (λ d. differs.1 (sym d))) ∙ e))
          ]

      put_found : (text : List ℕ) → IsTextOf n k text → Puts old id text true new → AreFound n is old → AreFound n (is ++ i ∷ []) new
      put_found text its (first within empty _ now) f = subst (AreFound n (is ++ i ∷ [])) (sym now) (set_found text its within empty f)
      put_found text its (again there _ now) f =
          kept now (λ j found last. subst (λ (a : ℕ). text_at old a ≡ Some found) (sym (last_id j found last)) (there ∙ ap (λ (t : List ℕ). Some t) (one_text n k text found its (last_text j found last)))) f
      put_found text its (another found there differ not now) f = absurd cc

      put_twice : (text : List ℕ) → IsTextOf n k text → Puts old id text false new → AreFound n is old → HasTwoNames n (is ++ i ∷ [])
      put_twice text its (first within empty not _) f = absurd cc
      put_twice text its (again there not _) f = absurd cc
      put_twice text its (another found there differ _ now) f = record { id = id; one = found; other = text; under_one = under_more is i id found ((f.are id found).1 there); under_other = now_under text its; apart = differ }

      key_found : PutsKey n old k id true new → AreFound n is old → AreFound n (is ++ i ∷ []) new
      key_found (its_text text its puts) f = put_found text its puts f
      key_found (no_text none _ now) f = kept now (λ j found last. absurd (none found (last_text j found last))) f

      key_twice : PutsKey n old k id false new → AreFound n is old → HasTwoNames n (is ++ i ∷ [])
      key_twice (its_text text its puts) f = put_twice text its puts f
      key_twice (no_text none not _) f = absurd cc

    -- ---- by the place at which it stands

    place_found : (p : ImportPlace) (at : StandsAt n i p) → PutsPlace n old p true new → AreFound n is old → AreFound n (is ++ i ∷ []) new
    place_found (OwnFunction entry) at puts f = other at.item at.stands (elsewhere n at.item entry at.has) puts.1 f
    place_found (InterfaceFunction entry j) at puts f =
        let of = of_interface n entry j at.item at.has in
        let e : Entry = (of.own, item.Interface of.id of.stability of.span) in
        key_found of.own of.id of.function (of.stability, of.span, has_at n.world.imports.entries entry e of.at) (subst (StandsFor n i) of.is at.stands) (puts e of.at) f
    place_found (OwnDrop r) at puts f = other at.item at.stands (own_drop r at.item at.has) puts.1 f
    place_found (InterfaceDrop entry r) at puts f = other at.item at.stands (intrinsic r ImportedDrop (slice_get n.world.imports.entries entry) at.item at.has) puts.1 f
    place_found (ExportedIntrinsic entry r what) at puts f = other at.item at.stands (intrinsic r what (slice_get n.world.exports.entries entry) at.item at.has) puts.1 f

    place_twice : (p : ImportPlace) (at : StandsAt n i p) → PutsPlace n old p false new → AreFound n is old → HasTwoNames n (is ++ i ∷ [])
    place_twice (OwnFunction entry) at puts f = absurd (let e : false ≡ true = puts.0 in cc)
    place_twice (InterfaceFunction entry j) at puts f =
        let of = of_interface n entry j at.item at.has in
        let e : Entry = (of.own, item.Interface of.id of.stability of.span) in
        key_twice of.own of.id of.function (of.stability, of.span, has_at n.world.imports.entries entry e of.at) (subst (StandsFor n i) of.is at.stands) (puts e of.at) f
    place_twice (OwnDrop r) at puts f = absurd (let e : false ≡ true = puts.0 in cc)
    place_twice (InterfaceDrop entry r) at puts f = absurd (let e : false ≡ true = puts.0 in cc)
    place_twice (ExportedIntrinsic entry r what) at puts f = absurd (let e : false ≡ true = puts.0 in cc)

  -- ---- before the first

  pub none_found : (texts : Texts) → AreNone texts (length n.known.interfaces) → AreFound n [] texts
  none_found texts none = record {
    so_many = none.length_is;
    are = λ id text. ((λ u. absurd u.needed.1), λ at. absurd (let e : None ≡ Some text = sym (none.none id) ∙ at in cc));
  }

  -- ---- one after the other

  under_all : (k : ℕ) (is : List ImportValue) (id : ℕ) (text : List ℕ) → IsNeededUnder n (take k is) id text → IsNeededUnder n is id text
  under_all k is id text u = record {
    key = u.key;
    is_key = u.is_key;
    function = u.function;
    needed = (u.needed.0, subst (λ (l : List ImportValue). Has l u.needed.0) (take-append-drop k is) (has_before (take k is) (drop k is) u.needed.0 u.needed.1), u.needed.2);
    text_is = u.text_is;
  }

  twice_all : (k : ℕ) (is : List ImportValue) → HasTwoNames n (take k is) → HasTwoNames n is
  twice_all k is t = record { id = t.id; one = t.one; other = t.other; under_one = under_all k is t.id t.one t.under_one; under_other = under_all k is t.id t.other t.under_other; apart = t.apart }

  module _ (is : List ImportValue) (k : ℕ) (i : ImportValue) (old new : Texts) (there : slice_get is k ≡ Some i) (p : ImportPlace) (at : StandsAt n i p) (alone : Bool) (puts : PutsPlace n old p alone new) (f : AreFound n (take k is) old) where
    pub next_found : alone ≡ true → AreFound n (take (k + 1) is) new
    next_found one = subst (λ (l : List ImportValue). AreFound n l new) (sym (taken_more is k i there)) (place_found (take k is) i old new p at (subst (λ (b : Bool). PutsPlace n old p b new) one puts) f)

    pub next_twice : alone ≡ false → HasTwoNames n is
    next_twice two = twice_all (k + 1) is (subst (HasTwoNames n) (sym (taken_more is k i there)) (place_twice (take k is) i old new p at (subst (λ (b : Bool). PutsPlace n old p b new) two puts) f))

-- ---- those that core imports don't name

module _ (n : Names) where
  pub nothing_filled : (old : Texts) → AreFilled n [] old old
  nothing_filled old = record { so_many = refl; kept = λ id text at. at; more = λ id text at. inl at; all = λ e h. absurd h }

  -- what is there stays
  stays : (mid new : Texts) → ((id : ℕ) (text : List ℕ) → text_at mid id ≡ Some text → text_at new id ≡ Some text) → (e : Entry) → IsFilledAt n mid e → IsFilledAt n new e
  stays mid new kept (k, item.Interface id s at) filled = λ text its. (let found = filled text its in (found.0, kept id found.0 found.1))
  stays mid new kept (k, item.Function f) filled = tt
  stays mid new kept (k, item.TypeItem id at) filled = tt

  module _ (es : List Entry) (e : Entry) (old mid new : Texts) (f : AreFilled n es old mid) where
    with_one : (so_many : length new ≡ length mid) (kept : (id : ℕ) (text : List ℕ) → text_at mid id ≡ Some text → text_at new id ≡ Some text)
        → ((id : ℕ) (text : List ℕ) → text_at new id ≡ Some text → (text_at mid id ≡ Some text) ⊎ IsImportedUnder n id text) → IsFilledAt n new e → AreFilled n (es ++ e ∷ []) old new
    with_one so_many kept more here = record {
      so_many = so_many ∙ f.so_many;
      kept = λ id text at. kept id text (f.kept id text at);
      more = λ id text at. elim (more id text at) as (λ _. (text_at old id ≡ Some text) ⊎ IsImportedUnder n id text) [
        | inl was ↦ f.more id text was
        | inr is ↦ inr is
      ];
      all = λ x h. elim (has_one_more es e x h) as (λ _. IsFilledAt n new x) [
        | inl last ↦ subst (IsFilledAt n new) (sym last) here
        | inr was ↦ stays mid new kept x (f.all x was)
      ];
    }

    as_it_was : new ≡ mid → IsFilledAt n mid e → AreFilled n (es ++ e ∷ []) old new
    as_it_was same here =
        with_one (ap length same) (λ id text at. ap (λ (ts : Texts). text_at ts id) same ∙ at) (λ id text at. inl (ap (λ (ts : Texts). text_at ts id) (sym same) ∙ at)) (subst (λ (ts : Texts). IsFilledAt n ts e) (sym same) here)

  module _ (es : List Entry) (k : WorldKey) (id : ℕ) (s : Stability) (span : Span) (old mid new : Texts) (f : AreFilled n es old mid) (is_key : IsKeyOf n k id) where
    abbrev here : Entry
    here = (k, item.Interface id s span)

    put_filled : (text : List ℕ) (alone : Bool) → IsTextOf n k text → Puts mid id text alone new → AreFilled n (es ++ here ∷ []) old new
    put_filled text alone its (first within empty _ now) =
        let same : text_at new id ≡ Some text = ap (λ (ts : Texts). text_at ts id) now ∙ get_or-set_same mid id (Some text) None within in
        let others : (j : ℕ) → (id ≡ j → ⊥) → text_at new j ≡ text_at mid j = λ j differs. ap (λ (ts : Texts). text_at ts j) now ∙ get_or-set_other mid id j (Some text) None (λ d. differs (sym d)) in
        with_one es here old mid new f (ap length now ∙ length-set mid id (Some text))
        (λ j found at. elim (eqb_tells id j) as (λ _. text_at new j ≡ Some found) [
          | inl is_it ↦ absurd (let bad : None ≡ Some found = sym empty ∙ ap (text_at mid) is_it.1 ∙ at in cc)
          | inr differs ↦ others j differs.1 ∙ at
        ])
        (λ j found at. elim (eqb_tells id j) as (λ _. (text_at mid j ≡ Some found) ⊎ IsImportedUnder n j found) [
          | inl is_it ↦ (
              let both : text ≡ found = same_Some text found (sym same ∙ ap (text_at new) is_it.1 ∙ at) in
              inr (subst (λ (a : ℕ). IsImportedUnder n a found) is_it.1 (record { key = k; is_key = is_key; is = subst (IsTextOf n k) both its })))
          | inr differs ↦ inl (sym (others j differs.1) ∙ at)
        ])
        (λ _ _. (text, same))
    put_filled text alone its (again there _ now) = as_it_was es here old mid new f now (λ _ _. (text, there))
    put_filled text alone its (another other there _ _ now) = as_it_was es here old mid new f now (λ _ _. (other, there))

    key_filled : (alone : Bool) → PutsKey n mid k id alone new → AreFilled n (es ++ here ∷ []) old new
    key_filled alone (its_text text its puts) = put_filled text alone its puts
    key_filled alone (no_text none _ now) = as_it_was es here old mid new f now (λ text its. absurd (none text its))

  entry_filled : (es : List Entry) (e : Entry) (old mid new : Texts) (alone : Bool) → Has n.world.imports.entries e → PutsEntry n mid e alone new → AreFilled n es old mid → AreFilled n (es ++ e ∷ []) old new
  entry_filled es (k, item.Interface id s at) old mid new alone has puts f = key_filled es k id s at old mid new f (s, at, has) alone puts
  entry_filled es (k, item.Function g) old mid new alone has puts f = as_it_was es (k, item.Function g) old mid new f puts.1 tt
  entry_filled es (k, item.TypeItem t to) old mid new alone has puts f = as_it_was es (k, item.TypeItem t to) old mid new f puts.1 tt

  pub next_filled : (k : ℕ) (old mid new : Texts) (alone : Bool) → k < length n.world.imports.entries → ((e : Entry) → slice_get n.world.imports.entries k ≡ Some e → PutsEntry n mid e alone new)
      → AreFilled n (take k n.world.imports.entries) old mid → AreFilled n (take (k + 1) n.world.imports.entries) old new
  next_filled k old mid new alone within puts f =
      let es = n.world.imports.entries in
      let e = got es k within in
      subst (λ (l : List Entry). AreFilled n l old new) (sym (taken_more es k e.0 e.1)) (entry_filled (take k es) e.0 old mid new alone (has_at es k e.0 e.1) (puts e.0 e.1) f)

  -- ---- all of them

  pub all_found : (is : List ImportValue) (old new : Texts) → AreFound n is old → AreFilled n n.world.imports.entries old new → AreNamesById n is (or_empty new)
  all_found is old new found filled = record {
    so_many = length-map new text_or_empty ∙ filled.so_many ∙ found.so_many;
    are = record {
      keys = λ id text under. let has = filled.all (under.key, item.Interface id under.is_key.0 under.is_key.1) under.is_key.2 text under.is in subst (IsImportedUnder n id) (sym (called id has.0 has.1)) (its id has.0 has.1);
      needed = λ k id f text is_key needed of.
          let at = (found.are id text).0 (record { key = k; is_key = is_key; function = f; needed = needed; text_is = of }) in
          called id text (filled.kept id text at);
    };
    only = λ id. by id (text_at new id) refl;
  }
    where
      read : (id : ℕ) → get_or (or_empty new) id [] ≡ text_or_empty (text_at new id)
      read id = get_or-map text_or_empty new id None

      called : (id : ℕ) (text : List ℕ) → text_at new id ≡ Some text → get_or (or_empty new) id [] ≡ text
      called id text at = read id ∙ ap text_or_empty at

      its : (id : ℕ) (text : List ℕ) → text_at new id ≡ Some text → IsImportedUnder n id text
      its id text at = elim (filled.more id text at) as (λ _. IsImportedUnder n id text) [
        | inl was ↦ (let u = (found.are id text).1 was in record { key = u.key; is_key = u.is_key; is = u.text_is })
        | inr is_one ↦ is_one
      ]

      by : (id : ℕ) (o : Option (List ℕ)) → text_at new id ≡ o → (get_or (or_empty new) id [] ≡ []) ⊎ IsImportedUnder n id (get_or (or_empty new) id [])
      by id None e = inl (read id ∙ ap text_or_empty e)
      by id (Some text) e = inr (subst (IsImportedUnder n id) (sym (called id text e)) (its id text e))
