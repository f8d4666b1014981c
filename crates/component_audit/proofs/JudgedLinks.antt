-- What the auditor's tests say of the ends of core imports and exports.
use Rattle.std.proofs.Common.{◌≡◌, ℕ, suc, zero, ◌+◌, ◌<◌, ◌≤◌, arith, Bool, true, false, ◌&&◌, List, [], ◌∷◌, length, drop, get_or, Option, Some, None, refl, sym, ap, subst, ◌∙◌}
use Rattle.std.specs.Prelude.{map, bytes_eq, option_map, slice_get}
use Rattle.std.specs.Bool.{Decides}
use Rattle.std.proofs.lemmas.Bool.{and_parts, and_from}
use Rattle.std.proofs.lemmas.Bool.Decides.{not_from_Decides}
use Rattle.std.proofs.lemmas.List.{drop_more, drop_all, length-map}
use Rattle.std.proofs.lemmas.Option.{same_Some, slice_get_within, slice_get_read, slice_get-map, slice_get-get_or, get_or_from_slice_get}
use Rattle.distinct_names.specs.Names.{all_new}
use Rattle.wasm_types.specs.declared.entries.Import.{Import}
use Rattle.wasm_types.specs.Types.{FuncTypeValue}
use Rattle.wasm_types.specs.Entries.{import_value}
use Rattle.wasm_format.specs.Module.{ModuleValue}
use Rattle.name_places.specs.FirstPlaces.{place_of}
use Rattle.plain_worlds.specs.World.{FunctionTypeValue, FunctionItem}
use Rattle.wit_component.specs.Flat.{flat}
use Rattle.wit_component.specs.Linking.{CoreImport, CoreExport, Linking, core_import}
use Rattle.wit_component.specs.Table.{Entry, import_entry, export_entry, entries_of_export}
use Rattle.wit_component.specs.Places.{ImportLink, ExportLink, ImportPlace, ExportPlace, Placed, Places, ArePlaces}
use Rattle.wit_component.specs.Meaning.{Spaces, CoreOrigin, of_export, of_lower, Origin, of_import, of_lift, CoreFunction, ComponentFunction, ExportEntry, import_with, item_at, is_of_core_type}
use Rattle.wit_component.specs.Right.{IsLoweringOf, IsLiftOf, IsGiven, EachGiven, LiftsOwn}
use Rattle.component_audit.specs.Tests.{function_named, is_named, is_export_of, is_lift, is_lift_of, is_imported, is_import_of, is_lowering, is_lowering_of}
use Rattle.wit_component.proofs.Lists.{bytes_eq_refl, bytes_eq_is}
use Rattle.wit_component.proofs.Entries.{import_entered, export_entered}
use Rattle.component_audit.proofs.Equal.{core_type_decides}
use Rattle.wit_component.proofs.PlacesLists.{view_at}
use Rattle.wit_component.proofs.WrittenNames.{names_of}
use Rattle.component_audit.proofs.Judged.{named_is, named_in, named_at, named_there}

-- ---- exports

named_at_origin : (o : CoreOrigin) (name : List ℕ) → is_named o name ≡ true → (k : ℕ) × (o ≡ of_export k name)
named_at_origin (of_export k x) name h = (k, ap (of_export k) (bytes_eq_is x name h))
named_at_origin (of_lower n) name h = absurd cc

core_type_of : (t : Option FuncTypeValue) (c : CoreFunction) (wanted : FuncTypeValue) → t ≡ Some wanted → is_of_core_type t (Some c) ≡ true → c.ty ≡ wanted
core_type_of None c wanted e h = absurd cc
core_type_of (Some t) c wanted e h = sym ((core_type_decides t c.ty).0 h) ∙ same_Some t wanted e

of_its_type : (t : Option FuncTypeValue) (c : CoreFunction) → t ≡ Some c.ty → is_of_core_type t (Some c) ≡ true
of_its_type t c e = ap (λ (u : Option FuncTypeValue). is_of_core_type u (Some c)) e ∙ (core_type_decides c.ty c.ty).1 refl

-- an export of that name and core type
export_is : (o : Option CoreFunction) (name : List ℕ) (t : Option FuncTypeValue) (wanted : FuncTypeValue) → t ≡ Some wanted → is_export_of o name t ≡ true → (k : ℕ) × (o ≡ Some (record { origin = of_export k name; ty = wanted }))
export_is None name t wanted e h = absurd cc
export_is (Some c) name t wanted e h =
    let p = and_parts (is_named c.origin name) (is_of_core_type t (Some c)) h in
    let at = named_at_origin c.origin name p.0 in
    let ty = core_type_of t c wanted e p.1 in
    (at.0, λ i. Some (record { origin = at.1 i; ty = ty i }))

is_export : (k : ℕ) (name : List ℕ) (t : Option FuncTypeValue) (wanted : FuncTypeValue) → t ≡ Some wanted → is_export_of (Some (record { origin = of_export k name; ty = wanted })) name t ≡ true
is_export k name t wanted e = and_from (bytes_eq name name) (is_of_core_type t (Some (record { origin = of_export k name; ty = wanted }))) (bytes_eq_refl name) (of_its_type t (record { origin = of_export k name; ty = wanted }) e)

-- the lift that an entry speaks of
lift_is : (s : Spaces) (e : Entry) (o : Origin) (name : List ℕ) (t : Option FuncTypeValue) → e.line.item ≡ Some name → t ≡ Some e.core_type → is_lift s.core_functions o name t ≡ true → IsLiftOf s e o
lift_is s e (of_import x) name t named typed h = absurd cc
lift_is s e (of_lift n) name t named typed h =
    let at = export_is (item_at s.core_functions n) name t e.core_type typed h in
    record { name = name; named = named; core = n; lifts = refl; instance = at.0; is = at.1 }

is_its_lift : (s : Spaces) (e : Entry) (o : Origin) (name : List ℕ) (t : Option FuncTypeValue) → e.line.item ≡ Some name → t ≡ Some e.core_type → IsLiftOf s e o → is_lift s.core_functions o name t ≡ true
is_its_lift s e o name t named typed h =
    let same : h.name ≡ name = same_Some h.name name (sym h.named ∙ named) in
    ap (λ (x : Origin). is_lift s.core_functions x name t) h.lifts
    ∙ (ap (λ (x : Option CoreFunction). is_export_of x name t) (h.is ∙ ap (λ (x : List ℕ). Some (record { origin = of_export h.instance x; ty = e.core_type })) same)
    ∙ is_export h.instance name t e.core_type typed)

item_lifts : (s : Spaces) (e : Entry) (o : Option ComponentFunction) (name : List ℕ) (t : Option FuncTypeValue) → e.line.item ≡ Some name → t ≡ Some e.core_type → is_lift_of s.core_functions o name t ≡ true
    → (c : ComponentFunction) × (o ≡ Some c) × IsLiftOf s e c.origin
item_lifts s e None name t named typed h = absurd cc
item_lifts s e (Some c) name t named typed h = (c, refl, lift_is s e c.origin name t named typed h)

module _ (l : Linking) (s : Spaces) (distinct : all_new [] (names_of l.world.exports) ≡ true) (x : ExportEntry) where
  own_is : (f : FunctionItem) → function_named x.name l.world.exports ≡ Some f → (e : CoreExport) → ExportLink l f e → LiftsOwn l s x → is_lift_of s.core_functions x.item e.name e.ty ≡ true
  own_is f named e link own =
      let same : own.function ≡ f = same_Some own.function f (sym (named_in l.world.exports distinct own.function own.listed) ∙ (ap (λ n. function_named n l.world.exports) (sym own.name) ∙ named)) in
      let one : own.entry ∷ [] ≡ export_entry f e ∷ [] = sym own.is_entry.entry.only ∙ (ap (entries_of_export l) same ∙ (export_entered l f e link).entry.only) in
      let entry : own.entry ≡ export_entry f e = cc in
      let lifts : IsLiftOf s (export_entry f e) own.item.origin = subst (λ (y : Entry). IsLiftOf s y own.item.origin) entry own.ends in
      ap (λ (i : Option ComponentFunction). is_lift_of s.core_functions i e.name e.ty) own.is ∙ is_its_lift s (export_entry f e) own.item.origin e.name e.ty refl link.matches lifts

  pub lift_decides : (f : FunctionItem) → function_named x.name l.world.exports ≡ Some f → (e : CoreExport) → ExportLink l f e → Decides (is_lift_of s.core_functions x.item e.name e.ty) (LiftsOwn l s x)
  lift_decides f named e link = (
    λ h.
        let at = item_lifts s (export_entry f e) x.item e.name e.ty refl link.matches h in
        let of = named_is x.name l.world.exports f named in
        record { function = f; listed = of.1; name = sym of.0; entry = export_entry f e; is_entry = export_entered l f e link; item = at.0; is = at.1; ends = at.2 },
    λ own. own_is f named e link own,
  )

  pub none_named : function_named x.name l.world.exports ≡ None → LiftsOwn l s x → ⊥
  none_named none own =
      let bad : Some own.function ≡ None = sym (named_in l.world.exports distinct own.function own.listed) ∙ (ap (λ n. function_named n l.world.exports) (sym own.name) ∙ none) in
      absurd cc

-- ---- core imports

imported_is : (o : Origin) (name : List ℕ) → is_imported o name ≡ true → o ≡ of_import name
imported_is (of_import x) name h = ap of_import (bytes_eq_is x name h)
imported_is (of_lift n) name h = absurd cc

import_is : (o : Option ComponentFunction) (name : List ℕ) → is_import_of o name ≡ true → (t : FunctionTypeValue) × (o ≡ Some (import_with name t))
import_is None name h = absurd cc
import_is (Some f) name h = let is = imported_is f.origin name h in (f.ty, λ i. Some (record { origin = is i; ty = f.ty }))

-- the lowering that an entry speaks of
lowers_import : (s : Spaces) (e : Entry) (c : CoreFunction) (o : CoreOrigin) (name : List ℕ) → e.line.item ≡ Some name → c.origin ≡ o → is_lowering s.functions o name ≡ true → IsLoweringOf s e c
lowers_import s e c (of_export k x) name named is h = absurd cc
lowers_import s e c (of_lower n) name named is h =
    let at = import_is (item_at s.functions n) name h in
    record { name = name; named = named; function = n; lowers = is; ty = at.0; is = at.1 }

is_its_lowering : (s : Spaces) (e : Entry) (c : CoreFunction) (name : List ℕ) → e.line.item ≡ Some name → IsLoweringOf s e c → is_lowering s.functions c.origin name ≡ true
is_its_lowering s e c name named h =
    let same : h.name ≡ name = same_Some h.name name (sym h.named ∙ named) in
    ap (λ (o : CoreOrigin). is_lowering s.functions o name) h.lowers
    ∙ (ap (λ (x : Option ComponentFunction). is_import_of x name) (h.is ∙ ap (λ (x : List ℕ). Some (import_with x h.ty)) same) ∙ bytes_eq_refl name)

given_of : (l : Linking) (s : Spaces) (i : CoreImport) (f : FunctionItem) → ImportLink l i f → (g : Option CoreFunction) → is_lowering_of s.functions g f.name ≡ true → is_of_core_type i.ty g ≡ true → IsGiven l s i g
given_of l s i f link None h t = absurd cc
given_of l s i f link (Some c) h t = record {
  entry = import_entry i f;
  is_entry = import_entered l i f link;
  core = c;
  is = refl;
  ends = lowers_import s (import_entry i f) c c.origin f.name refl refl h;
  matches = core_type_of i.ty c (flat f.ty) link.matches t;
}

pub given_decides : (l : Linking) (s : Spaces) (i : CoreImport) (f : FunctionItem) → ImportLink l i f → (g : Option CoreFunction) → Decides (is_lowering_of s.functions g f.name && is_of_core_type i.ty g) (IsGiven l s i g)
given_decides l s i f link g = (
  λ h. let p = and_parts (is_lowering_of s.functions g f.name) (is_of_core_type i.ty g) h in given_of l s i f link g p.0 p.1,
  λ own.
      let one : own.entry ∷ [] ≡ import_entry i f ∷ [] = sym own.is_entry.only ∙ (import_entered l i f link).only in
      let entry : own.entry ≡ import_entry i f = cc in
      let ends : IsLoweringOf s (import_entry i f) own.core = subst (λ (e : Entry). IsLoweringOf s e own.core) entry own.ends in
      let asked : i.ty ≡ Some own.core.ty = link.matches ∙ ap (λ (t : FuncTypeValue). Some t) (sym (own.matches ∙ ap (λ (e : Entry). e.core_type) entry)) in
      and_from (is_lowering_of s.functions g f.name) (is_of_core_type i.ty g)
      (ap (λ (o : Option CoreFunction). is_lowering_of s.functions o f.name) own.is ∙ is_its_lowering s (import_entry i f) own.core f.name refl ends)
      (ap (λ (o : Option CoreFunction). is_of_core_type i.ty o) own.is ∙ of_its_type i.ty own.core asked),
)

-- ---- all core imports

pub given_length : (l : Linking) (s : Spaces) (is : List CoreImport) (gs : List (Option CoreFunction)) → EachGiven l s is gs → length is ≡ length gs
given_length l s [] [] h = refl
given_length l s [] (g ∷ gs) h = absurd h
given_length l s (i ∷ is) [] h = absurd h
given_length l s (i ∷ is) (g ∷ gs) h = ap suc (given_length l s is gs h.1)

-- of imports and what they are given, those before this place are given their own
module _ {A B : Type 0} (l : Linking) (s : Spaces) (view : A → CoreImport) (look : B → Option CoreFunction) (is : List A) (gs : List B) where
  pub record Giving (k : ℕ) : Type 0 where
    pub back : EachGiven l s (map view (drop k is)) (map look (drop k gs)) → EachGiven l s (map view is) (map look gs)
    pub on : EachGiven l s (map view is) (map look gs) → EachGiven l s (map view (drop k is)) (map look (drop k gs))

  module _ (k : ℕ) (i : A) (g : B) (lt : k < length is) (lg : k < length gs) (ii : i ≡ get_or is k i) (gg : g ≡ get_or gs k g) where
    imports_here : drop k is ≡ i ∷ drop (k + 1) is
    imports_here = drop_more is k i lt ∙ ap (λ (x : A). x ∷ drop (k + 1) is) (sym ii)

    given_here : drop k gs ≡ g ∷ drop (k + 1) gs
    given_here = drop_more gs k g lg ∙ ap (λ (x : B). x ∷ drop (k + 1) gs) (sym gg)

    both_here : EachGiven l s (map view (drop k is)) (map look (drop k gs)) ≡ (IsGiven l s (view i) (look g) × EachGiven l s (map view (drop (k + 1) is)) (map look (drop (k + 1) gs)))
    both_here = ap (λ ys. EachGiven l s (map view ys) (map look (drop k gs))) imports_here ∙ ap (λ ys. EachGiven l s (map view (i ∷ drop (k + 1) is)) (map look ys)) given_here

    pub giving_on : Giving k → IsGiven l s (view i) (look g) → Giving (k + 1)
    giving_on h own = record {
      back = λ rest. h.back (subst (λ (T : Type 0). T) (sym both_here) (own, rest));
      on = λ all. (subst (λ (T : Type 0). T) both_here (h.on all)).1;
    }

    pub giving_fails : Giving k → (IsGiven l s (view i) (look g) → ⊥) → EachGiven l s (map view is) (map look gs) → ⊥
    giving_fails h fails all = fails (subst (λ (T : Type 0). T) both_here (h.on all)).0

  pub giving_ends : (k : ℕ) → length is ≤ k → length gs ≤ k → Giving k → EachGiven l s (map view is) (map look gs)
  giving_ends k le lg h = h.back (subst (λ ys. EachGiven l s (map view ys) (map look (drop k gs))) (sym (drop_all k is le)) (subst (λ ys. EachGiven l s [] (map look ys)) (sym (drop_all k gs lg)) tt))

-- ---- places

pub placed_at : {X : Type 0} (R : X → ℕ → Type 0) (xs : List X) (ps : List ℕ) (k : ℕ) (x : X) → Placed R xs ps → slice_get xs k ≡ Some x → (p : ℕ) × (slice_get ps k ≡ Some p) × R x p
placed_at R [] [] k x h e = absurd cc
placed_at R [] (p ∷ ps) k x h e = absurd h
placed_at R (y ∷ xs) [] k x h e = absurd h
placed_at R (y ∷ xs) (p ∷ ps) zero x h e = (p, refl, subst (λ z. R z p) (same_Some y x e) h.0)
placed_at R (y ∷ xs) (p ∷ ps) (suc k) x h e = placed_at R xs ps k x h.1 e

-- what was read at a place, as what stands there
pub item_read : {A X : Type 0} (view : A → X) (xs : List A) (k : ℕ) (a : A) (x : X) → slice_get (map view xs) k ≡ Some x → a ≡ get_or xs k a → view a ≡ x
item_read view xs k a x at read =
    let lt : k < length xs = omega (arith, slice_get_within (map view xs) k x at, length-map xs view) in
    same_Some (view a) x (sym (slice_get-map view xs k ∙ ap (option_map view) (slice_get_read xs (length xs) k a refl lt read)) ∙ at)

-- the core export of the exported function of a name, by the places of both
pub record OwnPlace (l : Linking) (t : Places) (name : List ℕ) (k : ℕ) : Type 0 where
  pub function : FunctionItem
  pub named : function_named name l.world.exports ≡ Some function
  pub place : ℕ
  pub placed : slice_get t.exports k ≡ Some place
  pub export : CoreExport
  pub there : slice_get l.main.exports place ≡ Some export
  pub link : ExportLink l function export

pub own_place : (l : Linking) (t : Places) (name : List ℕ) (k : ℕ) → ArePlaces l t → Some k ≡ place_of name (names_of l.world.exports) → OwnPlace l t name k
own_place l t name k h e =
    let named = named_there name l.world.exports k e in
    let at = placed_at (ExportPlace l) l.world.exports t.exports k named.0 h.exports (named_at name l.world.exports k e ∙ named.1) in
    record { function = named.0; named = named.1; place = at.0; placed = at.1; export = at.2.0; there = at.2.1; link = at.2.2 }

placed_length : {X : Type 0} (R : X → ℕ → Type 0) (xs : List X) (ps : List ℕ) → Placed R xs ps → length xs ≡ length ps
placed_length R [] [] h = refl
placed_length R [] (p ∷ ps) h = absurd h
placed_length R (x ∷ xs) [] h = absurd h
placed_length R (x ∷ xs) (p ∷ ps) h = ap suc (placed_length R xs ps h.1)

-- ---- the loop over the core imports

module _ (l : Linking) (s : Spaces) (m : ModuleValue) (items there : List Import) (same : there ≡ items) where
  abbrev pub imports_of : List Import → List CoreImport
  imports_of xs = map (core_import m) (map import_value xs)

  imports_map : (xs : List Import) → imports_of xs ≡ map (λ i. core_import m (import_value i)) xs
  imports_map [] = refl
  imports_map (x ∷ xs) = ap (λ (is : List CoreImport). core_import m (import_value x) ∷ is) (imports_map xs)

  item_there : (k : ℕ) (d : Import) → k < length there → slice_get items k ≡ Some (get_or there k d)
  item_there k d lt = ap (λ xs. slice_get xs k) (sym same) ∙ slice_get-get_or there k d lt

  item_self : (k : ℕ) (d : Import) → k < length there → get_or there k d ≡ get_or items k (get_or there k d)
  item_self k d lt = sym (get_or_from_slice_get items k (get_or there k d) (get_or there k d) (item_there k d lt))

  pub places_there : (ps : List ℕ) → Placed (ImportPlace l) (imports_of items) ps → length ps ≡ length there
  places_there ps h = omega (arith, placed_length (ImportPlace l) (imports_of items) ps h, length-map (map import_value items) (core_import m), length-map items import_value, ap length same)

  pub place_here : (ps : List ℕ) (k p : ℕ) → Placed (ImportPlace l) (imports_of items) ps → k < length there → p ≡ get_or ps k p → (d : Import) → ImportPlace l (core_import m (import_value (get_or there k d))) p
  place_here ps k p h lt read d =
      let i = core_import m (import_value (get_or there k d)) in
      let seen : slice_get (imports_of items) k ≡ Some i = view_at import_value (core_import m) items k (get_or there k d) (item_there k d lt) in
      let at = placed_at (ImportPlace l) (imports_of items) ps k i h seen in
      let here = slice_get_read ps (length ps) k p refl (slice_get_within ps k at.0 at.1) read in
      subst (ImportPlace l i) (same_Some at.0 p (sym at.1 ∙ here)) at.2

  module _ {B : Type 0} (look : B → Option CoreFunction) (gs : List B) (k : ℕ) (lt : k < length there) (lg : k < length gs) (d : Import) (g : B) (gg : g ≡ get_or gs k g) (r : Bool)
      (says : Decides r (IsGiven l s (core_import m (import_value (get_or there k d))) (look g))) (h : Giving l s (λ i. core_import m (import_value i)) look items gs k) where
    lt_items : k < length items
    lt_items = omega (arith, lt, ap length same)

    pub taken : r ≡ true → Giving l s (λ i. core_import m (import_value i)) look items gs (k + 1)
    taken yes_is = giving_on l s (λ i. core_import m (import_value i)) look items gs k (get_or there k d) g lt_items lg (item_self k d lt) gg h (says.0 yes_is)

    pub not_taken : r ≡ false → EachGiven l s (imports_of items) (map look gs) → ⊥
    not_taken no_is all =
        giving_fails l s (λ i. core_import m (import_value i)) look items gs k (get_or there k d) g lt_items lg (item_self k d lt) gg h (not_from_Decides r says no_is)
        (subst (λ is. EachGiven l s is (map look gs)) (imports_map items) all)

  pub all_taken : {B : Type 0} (look : B → Option CoreFunction) (gs : List B) (k : ℕ) → length items ≤ k → length gs ≤ k → Giving l s (λ i. core_import m (import_value i)) look items gs k → EachGiven l s (imports_of items) (map look gs)
  all_taken look gs k le lg h = subst (λ is. EachGiven l s is (map look gs)) (sym (imports_map items)) (giving_ends l s (λ i. core_import m (import_value i)) look items gs k le lg h)

  pub as_many : {B : Type 0} (look : B → Option CoreFunction) (gs : List B) → EachGiven l s (imports_of items) (map look gs) → length gs ≡ length items
  as_many look gs h = omega (arith, given_length l s (imports_of items) (map look gs) h, length-map gs look, length-map (map import_value items) (core_import m), length-map items import_value)
