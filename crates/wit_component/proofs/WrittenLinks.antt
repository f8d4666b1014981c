-- What the places of links say of the functions that are needed and of the core exports that are lifted.
use Rattle.std.proofs.Common.{inl, inr, ◌≡◌, ℕ, suc, ◌+◌, ◌<◌, Bool, true, false, not, cond, ◌&&◌, ◌||◌, List, [], ◌∷◌, ◌++◌, length, take, get_or, map, Bor, Option, Some, None, slice_get, refl, sym, ap, ◌∙◌, arith}
use Rattle.std.specs.Prelude.{bytes_eq, filter}
use Rattle.std.specs.List.{list_any, flat_map}
use Rattle.std.proofs.Math.Bool.{or-false}
use Rattle.std.proofs.lemmas.Bool.{and_parts, cases_Bool}
use Rattle.std.proofs.lemmas.Bool.Decides.{same_from_decides, Decides-like}
use Rattle.std.proofs.lemmas.Slice.Eq.{bytes_eq-Decides}
use Rattle.std.proofs.lemmas.List.{map-append, take_more}
use Rattle.std.proofs.lemmas.List.Elements.{All-nil, All-cons}
use Rattle.std.proofs.lemmas.Option.{slice_get-map, slice_get-get_or, slice_get_within}
use Rattle.std.specs.List.{All}
use Rattle.std.specs.Prelude.{option_map}
use Rattle.wasm_types.specs.declared.entries.Export.{Export}
use Rattle.wasm_types.specs.Entries.{export_value}
use Rattle.wasm_format.specs.Module.{ModuleValue}
use Rattle.wit_component.specs.Linking.{core_export}
use Rattle.std.proofs.lemmas.List.Concat.{flat_map-cons}
use Rattle.distinct_names.specs.Names.{is_new}
use Rattle.known_definitions.specs.Definition.{InlineExportValue}
use Rattle.plain_worlds.specs.World.{FunctionItem}
use Rattle.wit_component.specs.CoreNames.{root, standard, is_legacy_import, is_standard_import, is_import_name}
use Rattle.wit_component.specs.Linking.{CoreImport, CoreExport, Linking}
use Rattle.wit_component.specs.Table.{exported_by, is_needed, needed}
use Rattle.wit_component.specs.Places.{ImportPlace, ExportPlace, Placed, names_under, Places, ArePlaces}
use Rattle.wit_component.specs.Component.{numbered, given_at, given_under}
use Rattle.wit_component.specs.Right.{IsIn}
use Rattle.wit_component.proofs.Entries.{needed_is_asked, filter_among}

-- ---- names under a module text

not_not : (b : Bool) → not (not b) ≡ b
not_not true = refl
not_not false = refl

bytes_eq_sym : (a b : List ℕ) → bytes_eq a b ≡ bytes_eq b a
bytes_eq_sym a b = same_from_decides (bytes_eq a b) (bytes_eq b a) (bytes_eq-Decides a b) (Decides-like (bytes_eq b a) sym sym (bytes_eq-Decides b a))

any_under : (place name : List ℕ) (is : List CoreImport) → list_any (bytes_eq name) (map (λ i. i.name) (filter (λ i. bytes_eq i.place place) is)) ≡ list_any (λ i. bytes_eq i.place place && bytes_eq i.name name) is
any_under place name [] = refl
any_under place name (i ∷ is) =
    elim (bytes_eq i.place place) as (λ b. list_any (bytes_eq name) (map (λ (i : CoreImport). i.name) (cond b (i ∷ filter (λ i. bytes_eq i.place place) is) (filter (λ i. bytes_eq i.place place) is))) ≡ ((b && bytes_eq i.name name) || list_any (λ (i : CoreImport). bytes_eq i.place place && bytes_eq i.name name) is)) [
      | true ↦ ap (λ b. b || list_any (bytes_eq name) (map (λ (i : CoreImport). i.name) (filter (λ i. bytes_eq i.place place) is))) (bytes_eq_sym name i.name) ∙ ap (λ b. bytes_eq i.name name || b) (any_under place name is)
      | false ↦ any_under place name is
    ]

pub is_under : (place name : List ℕ) (is : List CoreImport) → not (is_new (map (λ i. i.name) (filter (λ i. bytes_eq i.place place) is)) name) ≡ list_any (λ i. bytes_eq i.place place && bytes_eq i.name name) is
is_under place name is = not_not _ ∙ any_under place name is

-- ---- the needed functions

-- a core import asks for it
abbrev pub wanted : List (List ℕ) → List (List ℕ) → FunctionItem → Bool
wanted legacy standard f = not (is_new legacy f.name) || not (is_new standard f.name)

filter_head : {X : Type 0} (test : X → Bool) (xs : List X) (y : X) (ys : List X) → filter test xs ≡ y ∷ ys → test y ≡ true
filter_head test [] y ys e = absurd cc
filter_head test (x ∷ xs) y ys e = elim (cases_Bool (test x)) [
  | inl holds ↦ (let head : x ∷ filter test xs ≡ y ∷ ys = rw holds at e in let same : x ≡ y = cc in ap test (sym same) ∙ holds)
  | inr fails ↦ filter_head test xs y ys (rw fails at e)
]

or_comm : (a b : Bool) → (a || b) ≡ (b || a)
or_comm true true = refl
or_comm true false = refl
or_comm false true = refl
or_comm false false = refl

or_swap : (a b c d : Bool) → ((a || b) || (c || d)) ≡ ((a || c) || (b || d))
or_swap true b c d = refl
or_swap false true true d = refl
or_swap false true false d = refl
or_swap false false c d = refl

module _ (l : Linking) where
  -- where legacy names are rejected, no linked core import stands under the legacy text
  not_legacy : (i : CoreImport) (p : ℕ) → ImportPlace l i p → l.rejects_legacy ≡ true → bytes_eq i.place root ≡ false
  not_legacy i p h rejects =
      let matches : is_import_name l.rejects_legacy i.place i.name h.0.name ≡ true = filter_head (λ f. is_import_name l.rejects_legacy i.place i.name f.name) l.world.imports h.0 [] h.2.only in
      let only : is_import_name true i.place i.name h.0.name ≡ true = ap (λ b. is_import_name b i.place i.name h.0.name) (sym rejects) ∙ matches in
      let plain : is_standard_import i.place i.name h.0.name ≡ true = sym (or-false (is_standard_import i.place i.name h.0.name)) ∙ only in
      let place : i.place ≡ standard = (bytes_eq-Decides i.place standard).0 (and_parts (bytes_eq i.place standard) (bytes_eq i.name h.0.name) plain).0 in
      ap (λ s. bytes_eq s root) place

  either : (i : CoreImport) (p : ℕ) → ImportPlace l i p → (name : List ℕ) → is_import_name l.rejects_legacy i.place i.name name ≡ (is_legacy_import i.place i.name name || is_standard_import i.place i.name name)
  either i p h name = elim (cases_Bool l.rejects_legacy) [
    | inl holds ↦ (ap (λ b. is_import_name b i.place i.name name) holds ∙ or-false (is_standard_import i.place i.name name)
        ∙ sym (ap (λ b. (b && bytes_eq i.name name) || is_standard_import i.place i.name name) (not_legacy i p h holds)))
    | inr fails ↦ (ap (λ b. is_import_name b i.place i.name name) fails ∙ or_comm (is_standard_import i.place i.name name) (is_legacy_import i.place i.name name))
  ]

  any_either : (is : List CoreImport) (ps : List ℕ) → Placed (ImportPlace l) is ps → (name : List ℕ)
      → list_any (λ i. is_import_name l.rejects_legacy i.place i.name name) is ≡ (list_any (λ i. is_legacy_import i.place i.name name) is || list_any (λ i. is_standard_import i.place i.name name) is)
  any_either [] [] h name = refl
  any_either [] (p ∷ ps) h name = absurd h
  any_either (i ∷ is) [] h name = absurd h
  any_either (i ∷ is) (p ∷ ps) h name =
      ap (λ b. b || list_any (λ i. is_import_name l.rejects_legacy i.place i.name name) is) (either i p h.0 name)
      ∙ ap (λ b. (is_legacy_import i.place i.name name || is_standard_import i.place i.name name) || b) (any_either is ps h.1 name)
      ∙ or_swap (is_legacy_import i.place i.name name) (is_standard_import i.place i.name name) _ _

  module _ (t : Places) (h : ArePlaces l t) where
    wanted_is_needed : (f : FunctionItem) → IsIn f l.world.imports → wanted t.legacy t.standard f ≡ is_needed l f
    wanted_is_needed f m =
        ap (λ ns. not (is_new ns f.name) || not (is_new t.standard f.name)) h.legacy
        ∙ ap (λ ns. not (is_new (names_under l root) f.name) || not (is_new ns f.name)) h.standard
        ∙ ap (λ b. b || not (is_new (names_under l standard) f.name)) (is_under root f.name l.main.imports)
        ∙ ap (λ b. list_any (λ i. is_legacy_import i.place i.name f.name) l.main.imports || b) (is_under standard f.name l.main.imports)
        ∙ sym (any_either l.main.imports t.imports h.imports f.name) ∙ sym (needed_is_asked l f m)

    pub wanted_are_needed : filter (wanted t.legacy t.standard) l.world.imports ≡ needed l
    wanted_are_needed = filter_among (wanted t.legacy t.standard) (is_needed l) l.world.imports wanted_is_needed

-- ---- the core exports at places

-- a core export's name, where there is one
abbrev pub text_at : List CoreExport → ℕ → List ℕ
text_at es p = elim (slice_get es p) as (λ _. List ℕ) [ None ↦ [] | Some e ↦ e.name ]

pub text_here : (m : ModuleValue) (es : List Export) (p : ℕ) (e : Export) → p < length es → e ≡ get_or es p e → text_at (map (core_export m) (map export_value es)) p ≡ e.name.now
text_here m es p e lt is =
    let found : slice_get (map (core_export m) (map export_value es)) p ≡ Some (core_export m (export_value e)) =
    slice_get-map (core_export m) (map export_value es) p ∙ ap (λ o. option_map (core_export m) o) (slice_get-map export_value es p ∙ ap (λ o. option_map export_value o) (slice_get-get_or es p e lt ∙ ap (λ (x : Export). Some x) (sym is))) in
    ap (λ (o : Option CoreExport). elim o as (λ _. List ℕ) [ None ↦ [] | Some e ↦ e.name ]) found

module _ (l : Linking) where
  -- the names of the core exports that stand for a function
  abbrev pub names_for : FunctionItem → List (List ℕ)
  names_for f = map (λ e. e.name) (exported_by l f)

  pub placed_within : (fs : List FunctionItem) (ps : List ℕ) → Placed (ExportPlace l) fs ps → All (λ p. p < length l.main.exports) ps
  placed_within [] [] h = All-nil (λ p. p < length l.main.exports)
  placed_within [] (p ∷ ps) h = absurd h
  placed_within (f ∷ fs) [] h = absurd h
  placed_within (f ∷ fs) (p ∷ ps) h = All-cons (λ p. p < length l.main.exports) p ps (slice_get_within l.main.exports p h.0.0 h.0.1) (placed_within fs ps h.1)

  pub placed_length : (fs : List FunctionItem) (ps : List ℕ) → Placed (ExportPlace l) fs ps → length ps ≡ length fs
  placed_length [] [] h = refl
  placed_length [] (p ∷ ps) h = absurd h
  placed_length (f ∷ fs) [] h = absurd h
  placed_length (f ∷ fs) (p ∷ ps) h = ap suc (placed_length fs ps h.1)

  pub placed_texts : (fs : List FunctionItem) (ps : List ℕ) → Placed (ExportPlace l) fs ps → map (λ p. text_at l.main.exports p) ps ≡ flat_map names_for fs
  placed_texts [] [] h = refl
  placed_texts [] (p ∷ ps) h = absurd h
  placed_texts (f ∷ fs) [] h = absurd h
  placed_texts (f ∷ fs) (p ∷ ps) h =
      let here : text_at l.main.exports p ≡ h.0.0.name = ap (λ (o : Option CoreExport). elim o as (λ _. List ℕ) [ None ↦ [] | Some e ↦ e.name ]) h.0.1 in
      let one : names_for f ≡ h.0.0.name ∷ [] = ap (λ (es : List CoreExport). map (λ e. e.name) es) h.0.2.only in
      ap (λ (t : List ℕ). t ∷ map (λ p. text_at l.main.exports p) ps) here ∙ ap (λ ts. h.0.0.name ∷ ts) (placed_texts fs ps h.1)
      ∙ ap (λ ts. ts ++ flat_map names_for fs) (sym one) ∙ sym (flat_map-cons names_for f fs)

-- ---- what is given under a module text

abbrev pub given_in : List (List ℕ) → ℕ → FunctionItem → List InlineExportValue
given_in names n f = cond (is_new names f.name) [] (record { name = f.name; func = n } ∷ [])

abbrev pub given_from : List (List ℕ) → ℕ → List FunctionItem → List InlineExportValue
given_from names n fs = flat_map (λ given. given) (numbered (given_in names) n fs)

numbered_agree : {X Y : Type 0} (f g : ℕ → X → Y) → ((n : ℕ) (x : X) → f n x ≡ g n x) → (n : ℕ) (xs : List X) → numbered f n xs ≡ numbered g n xs
numbered_agree f g e n [] = refl
numbered_agree f g e n (x ∷ xs) = ap (λ y. y ∷ numbered f (suc n) xs) (e n x) ∙ ap (λ ys. g n x ∷ ys) (numbered_agree f g e (suc n) xs)

cond_not : {X : Type 0} (b : Bool) (x y : X) → cond b x y ≡ cond (not b) y x
cond_not true x y = refl
cond_not false x y = refl

pub given_is : (l : Linking) (place : List ℕ) (names : List (List ℕ)) (fs : List FunctionItem) → names ≡ names_under l place → fs ≡ needed l → given_from names 0 fs ≡ given_under l place
given_is l place names fs same all =
    let at : (n : ℕ) (f : FunctionItem) → given_in (names_under l place) n f ≡ given_at l place n f =
    λ n f. cond_not (is_new (names_under l place) f.name) [] (record { name = f.name; func = n } ∷ []) ∙ ap (λ b. cond b (record { name = f.name; func = n } ∷ []) []) (is_under place f.name l.main.imports) in
    ap (λ ns. given_from ns 0 fs) same ∙ ap (λ gs. given_from (names_under l place) 0 gs) all
    ∙ ap (λ gs. flat_map (λ given. given) gs) (numbered_agree (given_in (names_under l place)) (given_at l place) at 0 (needed l))

pub given_step : (names : List (List ℕ)) (n m : ℕ) (f : FunctionItem) (fs : List FunctionItem) → m ≡ n + 1 → given_from names n (f ∷ fs) ≡ given_in names n f ++ given_from names m fs
given_step names n m f fs next =
    flat_map-cons (λ given. given) (given_in names n f) (numbered (given_in names) (suc n) fs) ∙ ap (λ k. given_in names n f ++ given_from names k fs) (let e : suc n ≡ m = omega arith in e)

-- ---- one more text

pub texts_more : (texts : List (Bor (List ℕ))) (t : Bor (List ℕ)) (text : ℕ → List ℕ) (places : List ℕ) (i : ℕ) → i < length places → map (λ t. t.now) texts ≡ map text (take i places)
    → t.now ≡ text (get_or places i 0) → map (λ t. t.now) (texts ++ t ∷ []) ≡ map text (take (i + 1) places)
texts_more texts t text places i lt so_far one =
    map-append (λ t. t.now) texts (t ∷ []) ∙ ap (λ l. l ++ t.now ∷ []) so_far ∙ ap (λ s. map text (take i places) ++ s ∷ []) one
    ∙ sym (ap (λ ps. map text ps) (take_more places i 0 lt) ∙ map-append text (take i places) (get_or places i 0 ∷ []))
