-- What the main module is given, by looking up.
use Rattle.std.proofs.Common.{◌≡◌, ℕ, zero, suc, ◌+◌, ◌<◌, List, [], ◌∷◌, ◌++◌, length, Bool, true, false, Option, Some, None, refl, sym, ap, ◌∙◌, arith, inl, inr}
use Rattle.std.proofs.lemmas.Bool.{cases_Bool, and_parts}
use Rattle.std.proofs.lemmas.Slice.Eq.{bytes_eq-Decides}
use Rattle.std.specs.Prelude.{slice_get, option_map, bytes_eq, ◌&&◌, if◌then◌else◌}
use Rattle.wasm_types.specs.declared.types.ExportKind.TheVariants.{Func}
use Rattle.wasm_types.specs.Entries.{ImportValue}
use Rattle.component_value_types.specs.Combinators.{NamedValue}
use Rattle.component_instances.specs.declared.instances.CoreItem.{CoreItem as CoreIndex}
use Rattle.core_links.specs.Imports.{RepeatsPair}
use Rattle.component_encoding.specs.Given.{Under, with_item, core_function, named_in, given_as, is_pair, first_from, AreGivenFor}

-- the first, or else the second
abbrev or_else : {A : Type 0} → Option A → Option A → Option A
or_else None y = y
or_else (Some x) y = Some x

or_none : {A : Type 0} (x : Option A) → or_else x None ≡ x
or_none None = refl
or_none (Some x) = refl

abbrev when : {A : Type 0} → Bool → A → Option A
when b x = if b then Some x else None

-- ---- texts

same_text : (a b q : List ℕ) → bytes_eq a b ≡ true → bytes_eq q a ≡ bytes_eq q b
same_text a b q e = ap (bytes_eq q) ((bytes_eq-Decides a b).0 e)

other_text : (a b q : List ℕ) → bytes_eq a b ≡ false → bytes_eq q b ≡ true → bytes_eq q a ≡ false
other_text a b q differ same = elim (cases_Bool (bytes_eq q a)) [
  | inl e ↦
      let one : q ≡ b = (bytes_eq-Decides q b).0 same in
      let two : q ≡ a = (bytes_eq-Decides q a).0 e in
      let k : bytes_eq a b ≡ true = (bytes_eq-Decides a b).1 (sym two ∙ one) in
      let no : true ≡ false = sym k ∙ differ in
      absurd cc
  | inr e ↦ e
]

-- ---- one more

named_more : (xs : List (NamedValue CoreIndex)) (name m : List ℕ) (x : CoreIndex) → named_in (xs ++ record { name = name; item = x } ∷ []) m ≡ or_else (named_in xs m) (when (bytes_eq m name) x)
named_more [] name m x = refl
named_more (y ∷ ys) name m x = elim (bytes_eq m y.name) as (λ b. (if b then Some y.item else named_in (ys ++ record { name = name; item = x } ∷ []) m) ≡ or_else (if b then Some y.item else named_in ys m) (when (bytes_eq m name) x)) [
  | true ↦ refl
  | false ↦ named_more ys name m x
]

module _ (text name : List ℕ) (x : CoreIndex) (q m : List ℕ) where
  item : NamedValue CoreIndex
  item = record { name = name; item = x }

  alone : given_as (record { text = text; items = record { name = name; item = x } ∷ [] } ∷ []) q m ≡ when (bytes_eq q text && bytes_eq m name) x
  alone = elim (bytes_eq q text) as (λ b. (if b then (if bytes_eq m name then Some x else None) else None) ≡ when (b && bytes_eq m name) x) [ true ↦ refl | false ↦ refl ]

  under_it : (u : Under) (us : List Under) → bytes_eq text u.text ≡ true
      → given_as (record { text = u.text; items = u.items ++ record { name = name; item = x } ∷ [] } ∷ us) q m ≡ or_else (given_as (u ∷ us) q m) (when (bytes_eq q text && bytes_eq m name) x)
  under_it u us here = elim (cases_Bool (bytes_eq q u.text)) [
    | inl e ↦
        ap (λ b. if b then named_in (u.items ++ record { name = name; item = x } ∷ []) m else given_as us q m) e
        ∙ named_more u.items name m x
        ∙ (λ i. or_else (if sym e i then named_in u.items m else given_as us q m) (when (sym (same_text text u.text q here ∙ e) i && bytes_eq m name) x))
    | inr e ↦
        ap (λ b. if b then named_in (u.items ++ record { name = name; item = x } ∷ []) m else given_as us q m) e
        ∙ sym (or_none (given_as us q m))
        ∙ (λ i. or_else (if sym e i then named_in u.items m else given_as us q m) (when (sym (same_text text u.text q here ∙ e) i && bytes_eq m name) x))
  ]

  behind_it : (u : Under) (us : List Under) → bytes_eq text u.text ≡ false → given_as (with_item us text (record { name = name; item = x })) q m ≡ or_else (given_as us q m) (when (bytes_eq q text && bytes_eq m name) x)
      → given_as (u ∷ with_item us text (record { name = name; item = x })) q m ≡ or_else (given_as (u ∷ us) q m) (when (bytes_eq q text && bytes_eq m name) x)
  behind_it u us other rest = elim (cases_Bool (bytes_eq q u.text)) [
    | inl e ↦
        ap (λ b. if b then named_in u.items m else given_as (with_item us text (record { name = name; item = x })) q m) e
        ∙ sym (or_none (named_in u.items m))
        ∙ (λ i. or_else (if sym e i then named_in u.items m else given_as us q m) (when (sym (other_text text u.text q other e) i && bytes_eq m name) x))
    | inr e ↦
        ap (λ b. if b then named_in u.items m else given_as (with_item us text (record { name = name; item = x })) q m) e
        ∙ rest
        ∙ ap (λ b. or_else (if b then named_in u.items m else given_as us q m) (when (bytes_eq q text && bytes_eq m name) x)) (sym e)
  ]

  pub given_more : (us : List Under) → given_as (with_item us text (record { name = name; item = x })) q m ≡ or_else (given_as us q m) (when (bytes_eq q text && bytes_eq m name) x)
  given_more [] = alone
  given_more (u ∷ us) = elim (cases_Bool (bytes_eq text u.text)) [
    | inl here ↦ ap (λ b. given_as (if b then record { text = u.text; items = u.items ++ record { name = name; item = x } ∷ [] } ∷ us else u ∷ with_item us text (record { name = name; item = x })) q m) here ∙ under_it u us here
    | inr other ↦ ap (λ b. given_as (if b then record { text = u.text; items = u.items ++ record { name = name; item = x } ∷ [] } ∷ us else u ∷ with_item us text (record { name = name; item = x })) q m) other ∙ behind_it u us other (given_more us)
  ]

-- ---- imports

first_more : (n : ℕ) (is : List ImportValue) (i : ImportValue) (q m : List ℕ) → first_from n (is ++ i ∷ []) q m ≡ or_else (first_from n is q m) (when (is_pair q m i) (n + length is))
first_more n [] i q m = ap (λ k. when (is_pair q m i) k) (let e : n ≡ n + 0 = omega arith in e)
first_more n (j ∷ js) i q m = elim (is_pair q m j) as (λ b. (if b then Some n else first_from (suc n) (js ++ i ∷ []) q m) ≡ or_else (if b then Some n else first_from (suc n) js q m) (when (is_pair q m i) (n + suc (length js)))) [
  | true ↦ refl
  | false ↦ first_more (suc n) js i q m ∙ ap (λ k. or_else (first_from (suc n) js q m) (when (is_pair q m i) k)) (let e : suc n + length js ≡ n + suc (length js) = omega arith in e)
]

map_both : {A B : Type 0} (f : A → B) (x : Option A) (b : Bool) (y : A) → or_else (option_map f x) (when b (f y)) ≡ option_map f (or_else x (when b y))
map_both f None true y = refl
map_both f None false y = refl
map_both f (Some x) b y = refl

abbrev as_function : ℕ → CoreIndex
as_function k = record { kind = Func; index = k }

pub given_next : (base : ℕ) (is : List ImportValue) (us : List Under) (i : ImportValue) (n : ℕ) → n ≡ base + length is → AreGivenFor base is us → AreGivenFor base (is ++ i ∷ []) (with_item us i.place (core_function i.name n))
given_next base is us i n at h q m =
    given_more i.place i.name (as_function n) q m us
    ∙ (λ k. or_else (h q m k) (when (is_pair q m i) (as_function (at k))))
    ∙ map_both as_function (first_from base is q m) (is_pair q m i) (base + length is)
    ∙ ap (option_map as_function) (sym (first_more base is i q m))

-- ---- the place of an import by its pair

pair_itself : (i : ImportValue) → is_pair i.place i.name i ≡ true
pair_itself i = (λ k. (bytes_eq-Decides i.place i.place).1 refl k && (bytes_eq-Decides i.name i.name).1 refl k)

-- behind others that have another pair
first_at : (n : ℕ) (is : List ImportValue) (k : ℕ) (i : ImportValue) → ((j : ℕ) (x : ImportValue) → j < k → slice_get is j ≡ Some x → is_pair i.place i.name x ≡ true → ⊥) → slice_get is k ≡ Some i → first_from n is i.place i.name ≡ Some (n + k)
first_at n [] k i apart at = absurd cc
first_at n (x ∷ xs) zero i apart at =
    let same : x ≡ i = cc in
    ap (λ b. if b then Some n else first_from (suc n) xs i.place i.name) (ap (is_pair i.place i.name) same ∙ pair_itself i) ∙ ap (λ m. Some m) (let e : n ≡ n + 0 = omega arith in e)
first_at n (x ∷ xs) (suc k) i apart at = elim (cases_Bool (is_pair i.place i.name x)) [
  | inl e ↦ absurd (apart zero x (omega arith) refl e)
  | inr e ↦
      ap (λ b. if b then Some n else first_from (suc n) xs i.place i.name) e
      ∙ first_at (suc n) xs k i (λ j y lt there. apart (suc j) y (omega (arith, lt)) there) at
      ∙ ap (λ m. Some m) (let d : suc n + k ≡ n + suc k = omega arith in d)
]

pub first_is : (n : ℕ) (is : List ImportValue) (k : ℕ) (i : ImportValue) → (RepeatsPair is → ⊥) → slice_get is k ≡ Some i → first_from n is i.place i.name ≡ Some (n + k)
first_is n is k i once at = first_at n is k i (λ j x lt there same. (
    let both = and_parts (bytes_eq i.place x.place) (bytes_eq i.name x.name) same in
    once (record {
      first = j;
      second = k;
      apart = lt;
      one = x;
      other = i;
      one_there = there;
      other_there = at;
      same_place = sym ((bytes_eq-Decides i.place x.place).0 both.0);
      same_name = sym ((bytes_eq-Decides i.name x.name).0 both.1);
    })
    )) at
