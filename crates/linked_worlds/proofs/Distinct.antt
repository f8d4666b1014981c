-- Names of imports of which no two are one.
use Rattle.std.proofs.Common.{◌≡◌, ℕ, zero, suc, ◌+◌, ◌<◌, Bool, true, false, not, List, [], ◌∷◌, ◌++◌, ◌⊎◌, inl, inr, Some, String, refl, sym, subst, ap, ◌∙◌, arith}
use Rattle.std.proofs.lemmas.Bool.{cases_Bool}
use Rattle.std.proofs.lemmas.Slice.Eq.{bytes_eq-Decides}
use Rattle.std.specs.Prelude.{slice_get, flat_map, bytes_eq, string_bytes, ◌||◌}
use Rattle.std.specs.declared.alloc.Global.{Global}
use Rattle.std.specs.List.{list_any}
use Rattle.distinct_names.specs.Names.{is_new}
use Rattle.wit_order.specs.Order.{Has}
use Rattle.wit_types.specs.declared.function.Function.{Function}
use Rattle.wit_types.specs.declared.world.WorldItem.{WorldItem}
use Rattle.wit_types.specs.declared.world.WorldItem.TheVariants as item
use Rattle.wit_types.specs.declared.world_key.WorldKey.{WorldKey}
use Rattle.wit_types.specs.declared.world_key.WorldKey.TheVariants as key
use Rattle.wit_reach.specs.Paths.{AreRising}
use Rattle.wit_reach.proofs.Holding.{has_mapped, mapped_has}
use Rattle.wit_elaborated.specs.Worlds.{AreKeysOfItems}
use Rattle.right_components.specs.Passed.core_links-Needed.{IsPartOf, empty, with_it, without, own_functions}
use Rattle.linked_interfaces.specs.Passed.component_imports-Functions.{function_names}
use Rattle.linked_interfaces.specs.Passed.component_imports-Interfaces.{is_needed, name_if, names_from}
use Rattle.linked_interfaces.specs.Passed.component_imports-Ready.{AreDistinct}
use Rattle.wit_item_names.specs.Passed.wit_labels-Plain.{ArePlainApart}
use Rattle.linked_worlds.proofs.Needed.{part_has}

-- ---- names of which each is none of those behind it

abbrev pub AreApart : List (List ℕ) → Type 0
AreApart [] = Unit {0}
AreApart (x ∷ xs) = ((y : List ℕ) → Has xs y → x ≡ y → ⊥) × AreApart xs

pub has_or : {X : Type 0} (xs ys : List X) (x : X) → Has (xs ++ ys) x → Has xs x ⊎ Has ys x
has_or [] ys x h = inr h
has_or (z ∷ xs) ys x (inl here) = inl (inl here)
has_or (z ∷ xs) ys x (inr later) = elim (has_or xs ys x later) as (λ _. Has (z ∷ xs) x ⊎ Has ys x) [ inl a ↦ inl (inr a) | inr b ↦ inr b ]

in_mid : (before : List (List ℕ)) (name : List ℕ) (behind : List (List ℕ)) → Has (before ++ name ∷ behind) name
in_mid [] name behind = inl refl
in_mid (b ∷ before) name behind = inr (in_mid before name behind)

or_else : (b c : Bool) → b ≡ false → not c ≡ true → not (b || c) ≡ true
or_else b c e h = ap (λ x. not (x || c)) e ∙ h

new_at : (before : List (List ℕ)) (name : List ℕ) (behind : List (List ℕ)) → AreApart (before ++ name ∷ behind) → is_new before name ≡ true
new_at [] name behind apart = refl
new_at (b ∷ before) name behind (first, rest) = elim (cases_Bool (bytes_eq name b)) as (λ _. is_new (b ∷ before) name ≡ true) [
  | inl same ↦ absurd (first name (in_mid before name behind) (sym ((bytes_eq-Decides name b).0 same)))
  | inr differ ↦ or_else (bytes_eq name b) (list_any (bytes_eq name) before) differ (new_at before name behind rest)
]

pub are_distinct : (names : List (List ℕ)) → AreApart names → AreDistinct names
are_distinct names apart before name behind e = new_at before name behind (subst AreApart e apart)

pub apart_append : (xs ys : List (List ℕ)) → AreApart xs → AreApart ys → ((x y : List ℕ) → Has xs x → Has ys y → x ≡ y → ⊥) → AreApart (xs ++ ys)
apart_append [] ys a b cross = b
apart_append (x ∷ xs) ys a b cross =
    ((λ y has same. elim (has_or xs ys y has) as (λ _. ⊥) [ inl first ↦ a.0 y first same | inr second ↦ cross x y (inl refl) second same ]), apart_append xs ys a.1 b (λ z y h k e. cross z y (inr h) k e))

-- ---- names of interfaces

module _ (name : ℕ → List ℕ) where
  -- it is that of one of which something is needed
  pub record IsNameFrom (first : ℕ) (needed : List (List ℕ)) (linked : List (List Function)) (x : List ℕ) : Type 0 where
    pub place : ℕ
    pub ids : List ℕ
    pub functions : List Function
    pub at_needed : slice_get needed place ≡ Some ids
    pub at_linked : slice_get linked place ≡ Some functions
    pub is : is_needed ids functions ≡ true
    pub name_is : x ≡ name (first + place)

  if_has : (b : Bool) (one x : List ℕ) → Has (name_if b one) x → (b ≡ true) × (x ≡ one)
  if_has true one x (inl here) = (refl, here)
  if_has true one x (inr none) = absurd none
  if_has false one x h = absurd h

  pub name_from : (i : ℕ) (needed : List (List ℕ)) (linked : List (List Function)) (x : List ℕ) → Has (names_from name i needed linked) x → IsNameFrom i needed linked x
  name_from i [] linked x h = absurd h
  name_from i (ids ∷ needed) [] x h = absurd h
  name_from i (ids ∷ needed) (fs ∷ linked) x h = elim (has_or (name_if (is_needed ids fs) (name i)) (names_from name (suc i) needed linked) x h) as (λ _. IsNameFrom i (ids ∷ needed) (fs ∷ linked) x) [
    | inl here ↦ (let r = if_has (is_needed ids fs) (name i) x here in record { place = zero; ids = ids; functions = fs; at_needed = refl; at_linked = refl; is = r.0; name_is = r.1 ∙ ap name (omega arith) })
    | inr later ↦
        let r = name_from (suc i) needed linked x later in
        let e : suc i + r.place ≡ i + suc r.place = omega arith in
        record { place = suc r.place; ids = r.ids; functions = r.functions; at_needed = r.at_needed; at_linked = r.at_linked; is = r.is; name_is = r.name_is ∙ ap name e }
  ]

  module _ (Asks : ℕ → Type 0) (unique : (a b : ℕ) → Asks a → Asks b → name a ≡ name b → a ≡ b) where
    pub from_apart : (i : ℕ) (needed : List (List ℕ)) (linked : List (List Function))
        → ((j : ℕ) (ids : List ℕ) (fs : List Function) → slice_get needed j ≡ Some ids → slice_get linked j ≡ Some fs → is_needed ids fs ≡ true → Asks (i + j)) → AreApart (names_from name i needed linked)
    from_apart i [] linked asks = tt
    from_apart i (ids ∷ needed) [] asks = tt
    from_apart i (ids ∷ needed) (fs ∷ linked) asks =
        let up : (j : ℕ) → i + suc j ≡ suc i + j = λ j. omega arith in
        apart_append (name_if (is_needed ids fs) (name i)) (names_from name (suc i) needed linked) (one (is_needed ids fs))
        (from_apart (suc i) needed linked (λ j js gs a b is. subst Asks (up j) (asks (suc j) js gs a b is)))
        (λ x y h k e.
        let first = if_has (is_needed ids fs) (name i) x h in
        let r = name_from (suc i) needed linked y k in
        let here : Asks i = subst Asks (let z : i + zero ≡ i = omega arith in z) (asks zero ids fs refl refl first.0) in
        let there : Asks (suc i + r.place) = subst Asks (up r.place) (asks (suc r.place) r.ids r.functions r.at_needed r.at_linked r.is) in
        let same : i ≡ suc i + r.place = unique i (suc i + r.place) here there (sym first.1 ∙ e ∙ r.name_is) in
        omega (arith, same))
      where
        one : (b : Bool) → AreApart (name_if b (name i))
        one true = ((λ y none e. none), tt)
        one false = tt

-- ---- names of rising ids

pub flat_of : (f : ℕ → List (List ℕ)) (is : List ℕ) (y : List ℕ) → Has (flat_map f is) y → (j : ℕ) × Has is j × Has (f j) y
flat_of f [] y h = absurd h
flat_of f (j ∷ is) y h = elim (has_or (f j) (flat_map f is) y h) as (λ _. (k : ℕ) × Has (j ∷ is) k × Has (f k) y) [
  | inl here ↦ (j, inl refl, here)
  | inr later ↦ (let r = flat_of f is y later in (r.0, inr r.1, r.2))
]

pub ids_apart : (f : ℕ → List (List ℕ)) (ids : List ℕ) → AreRising ids → ((i : ℕ) → AreApart (f i)) → ((i j : ℕ) (x y : List ℕ) → Has ids i → Has ids j → Has (f i) x → Has (f j) y → x ≡ y → i ≡ j) → AreApart (flat_map f ids)
ids_apart f [] rising one cross = tt
ids_apart f (i ∷ ids) rising one cross =
    apart_append (f i) (flat_map f ids) (one i) (ids_apart f ids rising.1 one (λ a b x y h k p q e. cross a b x y (inr h) (inr k) p q e))
    (λ x y h k e. (let r = flat_of f ids y k in let same : i ≡ r.0 = cross i r.0 x y (inl refl) (inr r.1) h r.2 e in let up : i < r.0 = rising.0 r.0 r.1 in omega (arith, same, up)))

-- ---- names of functions

-- one that is of the world itself stands under a plain name
pub own_entry : (es : List (WorldKey × WorldItem)) → AreKeysOfItems es → (f : Function) → Has (own_functions es) f → (x : String Global) × Has es (key.Name x, item.Function f)
own_entry [] keys f h = absurd h
own_entry ((k, item.Interface id s at) ∷ es) keys f h = (let r = own_entry es keys.1 f h in (r.0, inr r.1))
own_entry ((k, item.TypeItem id at) ∷ es) keys f h = (let r = own_entry es keys.1 f h in (r.0, inr r.1))
own_entry ((key.Name x, item.Function g) ∷ es) keys f (inl here) = (x, inl (ap (λ (z : Function). (key.Name x, item.Function z)) here))
own_entry ((key.Name x, item.Function g) ∷ es) keys f (inr later) = (let r = own_entry es keys.1 f later in (r.0, inr r.1))
own_entry ((key.Interface i, item.Function g) ∷ es) keys f h = absurd (let e : [] ≡ i ∷ [] = keys.0 in cc)

module _ (all : List (WorldKey × WorldItem)) (named : (x : String Global) (f : Function) → Has all (key.Name x, item.Function f) → string_bytes f.name ≡ string_bytes x) where
  pub own_apart : (es : List (WorldKey × WorldItem)) → ((e : WorldKey × WorldItem) → Has es e → Has all e) → AreKeysOfItems es → ArePlainApart es → AreApart (function_names (own_functions es))
  own_apart [] within keys apart = tt
  own_apart ((key.Name x, item.Interface id s at) ∷ es) within keys apart = own_apart es (λ e h. within e (inr h)) keys.1 apart.1
  own_apart ((key.Interface i, item.Interface id s at) ∷ es) within keys apart = own_apart es (λ e h. within e (inr h)) keys.1 apart
  own_apart ((key.Name x, item.TypeItem id at) ∷ es) within keys apart = own_apart es (λ e h. within e (inr h)) keys.1 apart.1
  own_apart ((key.Interface i, item.TypeItem id at) ∷ es) within keys apart = own_apart es (λ e h. within e (inr h)) keys.1 apart
  own_apart ((key.Interface i, item.Function f) ∷ es) within keys apart = absurd (let e : [] ≡ i ∷ [] = keys.0 in cc)
  own_apart ((key.Name x, item.Function f) ∷ es) within keys apart = (
    (λ y has same.
        let g = has_mapped (λ (h : Function). string_bytes h.name) (own_functions es) y has in
        let e = own_entry es keys.1 g.0 g.1 in
        apart.0 e.0 (item.Function g.0) e.1 (sym (named x f (within (key.Name x, item.Function f) (inl refl))) ∙ same ∙ sym g.2 ∙ named e.0 g.0 (within (key.Name e.0, item.Function g.0) (inr e.1)))),
    own_apart es (λ e h. within e (inr h)) keys.1 apart.1,
  )

pub part_apart : (xs ys : List Function) → IsPartOf xs ys → AreApart (function_names ys) → AreApart (function_names xs)
part_apart _ _ empty apart = tt
part_apart _ _ (with_it f xs ys p) apart = (
  (λ y has same. (let g = has_mapped (λ (h : Function). string_bytes h.name) xs y has in apart.0 y (subst (Has (function_names ys)) g.2 (mapped_has (λ (h : Function). string_bytes h.name) ys g.0 (part_has xs ys g.0 p g.1))) same)),
  part_apart xs ys p apart.1,
)
part_apart _ _ (without f xs ys p) apart = part_apart xs ys p apart.1
