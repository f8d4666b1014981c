-- No two items of an interface have one name, where no two types, no two functions and no type and function have.
use Rattle.std.proofs.Common.{◌≡◌, ◌<◌, ◌⊎◌, ℕ, zero, suc, List, [], ◌∷◌, ◌++◌, Bool, Option, Some, None, true, false, not, refl, sym, ap, subst, ◌∙◌, arith, append_assoc, inl, inr}
use Rattle.std.specs.Prelude.{slice_get, bytes_eq, String, string_bytes, ◌||◌}
use Rattle.std.specs.declared.alloc.Global.{Global}
use Rattle.std.specs.List.{list_any}
use Rattle.std.proofs.lemmas.Bool.{cases_Bool}
use Rattle.std.proofs.lemmas.Slice.Eq.{bytes_eq-Decides}
use Rattle.distinct_names.specs.Names.{is_new}
use Rattle.wit_order.specs.Order.{Has}
use Rattle.wit_types.specs.declared.function.Function.{Function}
use Rattle.wit_types.specs.declared.interface.TypeDef.{TypeDef}
use Rattle.wit_reach.specs.Paths.{AreRising}
use Rattle.type_sinks.specs.Passed.type_writing-Writing.{name_given}
use Rattle.type_sinks.specs.Inside.{is_of}
use Rattle.component_imports.specs.Functions.{function_names}
use Rattle.component_imports.specs.Interfaces.{owned_name, owned_names}
use Rattle.component_imports.specs.Ready.{AreDistinct}
use Rattle.component_imports.specs.Distinct.{IsNamedIn, AreNamesApart, ApartAreDistinct}

-- ---- names of which each is none of those behind it

abbrev AreApart : List (List ℕ) → Type 0
AreApart [] = Unit {0}
AreApart (x ∷ xs) = ((y : List ℕ) → Has xs y → x ≡ y → ⊥) × AreApart xs

in_mid : (before : List (List ℕ)) (name : List ℕ) (behind : List (List ℕ)) → Has (before ++ name ∷ behind) name
in_mid [] name behind = inl refl
in_mid (b ∷ before) name behind = inr (in_mid before name behind)

or_else : (b c : Bool) → b ≡ false → not c ≡ true → not (b || c) ≡ true
or_else b c e h = ap (λ x. not (x || c)) e ∙ h

new_at : (before : List (List ℕ)) (name : List ℕ) (behind : List (List ℕ)) → AreApart (before ++ name ∷ behind) → is_new before name ≡ true
new_at [] name behind apart = refl
new_at (b ∷ before) name behind (first, rest) = elim (cases_Bool (bytes_eq name b)) as (λ _. is_new (b ∷ before) name ≡ true) [
  | inl same ↦ absurd (first name (in_mid before name behind) (sym ((bytes_eq-Decides name b).0 same)))
  | inr differ ↦ or_else (bytes_eq name b) (list_any (bytes_eq name) before) differ (new_at before name behind rest)
]

are_distinct : (names : List (List ℕ)) → AreApart names → AreDistinct names
are_distinct names apart before name behind e = new_at before name behind (subst AreApart e apart)

-- ---- functions

function_at : (fs : List Function) (y : List ℕ) → Has (function_names fs) y → (i : ℕ) × (f : Function) × (slice_get fs i ≡ Some f) × Has fs f × (y ≡ string_bytes f.name)
function_at [] y h = absurd h
function_at (f ∷ fs) y h = elim h as (λ _. (i : ℕ) × (g : Function) × (slice_get (f ∷ fs) i ≡ Some g) × Has (f ∷ fs) g × (y ≡ string_bytes g.name)) [
  | inl e ↦ (zero, f, refl, inl refl, e)
  | inr later ↦ (let r = function_at fs y later in (suc r.0, r.1, r.2, inr r.3, r.4))
]

abbrev FunctionsApart : List Function → Type 0
FunctionsApart fs = (i j : ℕ) (f g : Function) → slice_get fs i ≡ Some f → slice_get fs j ≡ Some g → string_bytes f.name ≡ string_bytes g.name → i ≡ j

functions_apart : (fs : List Function) → FunctionsApart fs → AreApart (function_names fs)
functions_apart [] h = tt
functions_apart (f ∷ fs) h = (
  λ y has same. (let r = function_at fs y has in let e : zero ≡ suc r.0 = h zero (suc r.0) f r.1 refl r.2 (same ∙ r.4) in absurd (omega (arith, e))),
  functions_apart fs (λ i j g k at_i at_j same. (let e : suc i ≡ suc j = h (suc i) (suc j) g k at_i at_j same in omega (arith, e))),
)

-- ---- types

module _ (types : List TypeDef) (own : ℕ) where
  -- the name that a type gives is its own
  named_by : (i : ℕ) (d : TypeDef) (b : Bool) (x : Option (String Global)) (y : List ℕ) → slice_get types i ≡ Some d → is_of own d.owner ≡ b → d.name ≡ x → Has (name_given b x) y → IsNamedIn types own i y
  named_by i d true (Some x) y at owned named has = elim has as (λ _. IsNamedIn types own i y) [
    | inl e ↦ record { type_def = d; there = at; its = owned; own_name = x; named = named; is = sym e }
    | inr none ↦ absurd none
  ]
  named_by i d true None y at owned named has = absurd has
  named_by i d false x y at owned named has = absurd has

  named_at : (i : ℕ) (o : Option TypeDef) (y : List ℕ) → slice_get types i ≡ o → Has (owned_name own o) y → IsNamedIn types own i y
  named_at i None y at has = absurd has
  named_at i (Some d) y at has = named_by i d (is_of own d.owner) d.name y at refl refl has

  name_parts : (xs ys : List (List ℕ)) (y : List ℕ) → Has (xs ++ ys) y → Has xs y ⊎ Has ys y
  name_parts [] ys y h = inr h
  name_parts (x ∷ xs) ys y h = elim h as (λ _. Has (x ∷ xs) y ⊎ Has ys y) [
    | inl e ↦ inl (inl e)
    | inr later ↦ elim (name_parts xs ys y later) as (λ _. Has (x ∷ xs) y ⊎ Has ys y) [ inl a ↦ inl (inr a) | inr b ↦ inr b ]
  ]

  type_at : (ids : List ℕ) (y : List ℕ) → Has (owned_names own types ids) y → (j : ℕ) × Has ids j × IsNamedIn types own j y
  type_at [] y has = absurd has
  type_at (i ∷ ids) y has = elim (name_parts (owned_name own (slice_get types i)) (owned_names own types ids) y has) as (λ _. (j : ℕ) × Has (i ∷ ids) j × IsNamedIn types own j y) [
    | inl here ↦ (i, inl refl, named_at i (slice_get types i) y refl here)
    | inr later ↦ (let r = type_at ids y later in (r.0, inr r.1, r.2))
  ]

  one_more : (i : ℕ) (b : Bool) (x : Option (String Global)) (rest : List (List ℕ)) → ((y z : List ℕ) → Has (name_given b x) y → Has rest z → y ≡ z → ⊥) → AreApart rest → AreApart (name_given b x ++ rest)
  one_more i true (Some x) rest h apart = (λ z has same. h (string_bytes x) z (inl refl) has same, apart)
  one_more i true None rest h apart = apart
  one_more i false x rest h apart = apart

  with_type : (i : ℕ) (o : Option TypeDef) (rest : List (List ℕ)) → ((y z : List ℕ) → Has (owned_name own o) y → Has rest z → y ≡ z → ⊥) → AreApart rest → AreApart (owned_name own o ++ rest)
  with_type i None rest h apart = apart
  with_type i (Some d) rest h apart = one_more i (is_of own d.owner) d.name rest h apart

  module _ (linked : List (List Function)) (apart : AreNamesApart types linked) (fs : List Function) (has : slice_get linked own ≡ Some fs) where
    -- a type has none of the names behind it
    type_apart : (i : ℕ) (ids : List ℕ) → ((k : ℕ) → Has ids k → i < k) → (y z : List ℕ) → Has (owned_name own (slice_get types i)) y → Has (owned_names own types ids ++ function_names fs) z → y ≡ z → ⊥
    type_apart i ids low y z here behind same =
        let mine = subst (IsNamedIn types own i) same (named_at i (slice_get types i) y refl here) in
        elim (name_parts (owned_names own types ids) (function_names fs) z behind) as (λ _. ⊥) [
          | inl a ↦
              let other = type_at ids z a in
              let one = apart.types_apart own i other.0 z mine other.2 in
              let less = low other.0 other.1 in
              absurd (omega (arith, one, less))
          | inr b ↦ (let f = function_at fs z b in apart.between own fs i f.1 has f.3 (subst (IsNamedIn types own i) f.4 mine))
        ]

    items_apart : (ids : List ℕ) → AreRising ids → AreApart (owned_names own types ids ++ function_names fs)
    items_apart [] up = functions_apart fs (λ i j f g. apart.functions_apart own fs i j f g has)
    items_apart (i ∷ ids) up =
        subst AreApart (sym (append_assoc (owned_name own (slice_get types i)) (owned_names own types ids) (function_names fs)))
        (with_type i (slice_get types i) (owned_names own types ids ++ function_names fs) (type_apart i ids up.0) (items_apart ids up.1))

pub apart_distinct : ApartAreDistinct
apart_distinct types linked apart own ids fs of up has = are_distinct (owned_names own types ids ++ function_names fs) (items_apart types own linked apart fs has ids up)
