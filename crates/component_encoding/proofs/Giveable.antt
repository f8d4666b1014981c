-- What is gathered under texts may be given.
use Rattle.std.proofs.Common.{◌≡◌, ◌<◌, ◌≤◌, ℕ, zero, suc, ◌+◌, Bool, true, false, List, [], ◌∷◌, ◌++◌, length, map, take, get_or, Some, None, refl, sym, ap, subst, ◌∙◌, inl, inr, arith}
use Rattle.std.proofs.lemmas.Bool.{cases_Bool, and_parts, and_from}
use Rattle.std.proofs.lemmas.List.{map-append}
use Rattle.std.proofs.lemmas.Slice.Eq.{bytes_eq-Decides}
use Rattle.std.specs.Prelude.{slice_get, option_map, bytes_eq, if◌then◌else◌}
use Rattle.std.specs.List.{AllByRecursion as Each}
use Rattle.distinct_names.specs.Names.{is_new, all_new}
use Rattle.wasm_types.specs.declared.types.ExportKind.TheVariants.{Func}
use Rattle.wasm_types.specs.Entries.{ImportValue, import_value}
use Rattle.wasm_types.specs.declared.entries.Import.{Import}
use Rattle.component_sections.specs.Component.{DefinitionValue}
use Rattle.component_builder.specs.Builder.{index_behind}
use Rattle.component_value_types.specs.Combinators.{NamedValue}
use Rattle.component_instances.specs.declared.instances.CoreItem.{CoreItem as CoreIndex}
use Rattle.core_links.specs.Imports.{RepeatsPair}
use Rattle.linked_imports.proofs.Passed.type_sinks-Names.{all_new_push}
use Rattle.component_encoding.specs.Given.{Under, with_item, core_function, named_in, given_as, is_pair, first_from, AreGivenFor, IsFunctionBelow, item_names, MayBeGiven}
use Rattle.component_encoding.specs.Instances.{lowering_of}
use Rattle.component_encoding.proofs.Groups.{take_length, lowering_index}

-- ---- names that are new

new_more : (seen : List (List ℕ)) (a t : List ℕ) → is_new seen t ≡ true → bytes_eq t a ≡ false → is_new (seen ++ a ∷ []) t ≡ true
new_more [] a t h differ = rw differ refl
new_more (x ∷ seen) a t h differ = elim (cases_Bool (bytes_eq t x)) [
  | inl b ↦ (let bad : false ≡ true = rw b at h in absurd cc)
  | inr b ↦ rw (b, new_more seen a t (rw b at h) differ) refl
]

not_named : (xs : List (NamedValue CoreIndex)) (n : List ℕ) → named_in xs n ≡ None → is_new (map (λ (x : NamedValue CoreIndex). x.name) xs) n ≡ true
not_named [] n h = refl
not_named (x ∷ xs) n h = elim (cases_Bool (bytes_eq n x.name)) [
  | inl b ↦ (let bad : Some x.item ≡ None = ap (λ c. if c then Some x.item else named_in xs n) (sym b) ∙ h in absurd cc)
  | inr b ↦ (let rest : named_in xs n ≡ None = ap (λ c. if c then Some x.item else named_in xs n) (sym b) ∙ h in rw (b, not_named xs n rest) refl)
]

-- ---- one more

module _ (t : List ℕ) (x : NamedValue CoreIndex) where
  texts_more : (seen : List (List ℕ)) (us : List Under) → is_new seen t ≡ true → all_new seen (map (λ (u : Under). u.text) us) ≡ true → all_new seen (map (λ (u : Under). u.text) (with_item us t x)) ≡ true
  texts_more seen [] fresh h = rw fresh refl
  texts_more seen (u ∷ us) fresh h = elim (cases_Bool (bytes_eq t u.text)) [
    | inl b ↦ ap (λ c. all_new seen (map (λ (v : Under). v.text) (if c then record { text = u.text; items = u.items ++ x ∷ [] } ∷ us else u ∷ with_item us t x))) b ∙ h
    | inr b ↦
        let parts = and_parts (is_new seen u.text) (all_new (seen ++ u.text ∷ []) (map (λ (v : Under). v.text) us)) h in
        ap (λ c. all_new seen (map (λ (v : Under). v.text) (if c then record { text = u.text; items = u.items ++ x ∷ [] } ∷ us else u ∷ with_item us t x))) b
        ∙ and_from (is_new seen u.text) _ parts.0 (texts_more (seen ++ u.text ∷ []) us (new_more seen u.text t fresh b) parts.1)
  ]

  names_more : (us : List Under) → given_as us t x.name ≡ None → Each (λ u. all_new [] (item_names u) ≡ true) us → Each (λ u. all_new [] (item_names u) ≡ true) (with_item us t x)
  names_more [] none h = (refl, tt)
  names_more (u ∷ us) none h = elim (cases_Bool (bytes_eq t u.text)) [
    | inl b ↦
        let here : named_in u.items x.name ≡ None = ap (λ c. if c then named_in u.items x.name else given_as us t x.name) (sym b) ∙ none in
        subst (λ c. Each (λ v. all_new [] (item_names v) ≡ true) (if c then record { text = u.text; items = u.items ++ x ∷ [] } ∷ us else u ∷ with_item us t x)) (sym b)
        (ap (all_new []) (map-append (λ (y : NamedValue CoreIndex). y.name) u.items (x ∷ [])) ∙ all_new_push (item_names u) x.name h.0 (not_named u.items x.name here), h.1)
    | inr b ↦
        let there : given_as us t x.name ≡ None = ap (λ c. if c then named_in u.items x.name else given_as us t x.name) (sym b) ∙ none in
        subst (λ c. Each (λ v. all_new [] (item_names v) ≡ true) (if c then record { text = u.text; items = u.items ++ x ∷ [] } ∷ us else u ∷ with_item us t x)) (sym b) (h.0, names_more us there h.1)
  ]

  functions_last : (n : ℕ) (xs : List (NamedValue CoreIndex)) → IsFunctionBelow n x → Each (IsFunctionBelow n) xs → Each (IsFunctionBelow n) (xs ++ x ∷ [])
  functions_last n [] one h = (one, tt)
  functions_last n (y ∷ ys) one h = (h.0, functions_last n ys one h.1)

  functions_more : (n : ℕ) (us : List Under) → IsFunctionBelow n x → Each (λ u. Each (IsFunctionBelow n) u.items) us → Each (λ u. Each (IsFunctionBelow n) u.items) (with_item us t x)
  functions_more n [] one h = ((one, tt), tt)
  functions_more n (u ∷ us) one h = elim (bytes_eq t u.text) as (λ c. Each (λ v. Each (IsFunctionBelow n) v.items) (if c then record { text = u.text; items = u.items ++ x ∷ [] } ∷ us else u ∷ with_item us t x)) [
    | true ↦ (functions_last n u.items one h.0, h.1)
    | false ↦ (h.0, functions_more n us one h.1)
  ]

below_more : (n m : ℕ) (xs : List (NamedValue CoreIndex)) → n ≤ m → Each (IsFunctionBelow n) xs → Each (IsFunctionBelow m) xs
below_more n m [] le h = tt
below_more n m (x ∷ xs) le h = (let low = h.0.index in record { kind = h.0.kind; index = omega (arith, low, le) }, below_more n m xs le h.1)

all_below_more : (n m : ℕ) (us : List Under) → n ≤ m → Each (λ u. Each (IsFunctionBelow n) u.items) us → Each (λ u. Each (IsFunctionBelow m) u.items) us
all_below_more n m [] le h = tt
all_below_more n m (u ∷ us) le h = (below_more n m u.items le h.0, all_below_more n m us le h.1)

-- ---- imports

first_none : (n : ℕ) (is : List ImportValue) (q m : List ℕ) → ((j : ℕ) (y : ImportValue) → slice_get is j ≡ Some y → is_pair q m y ≡ false) → first_from n is q m ≡ None
first_none n [] q m other = refl
first_none n (y ∷ ys) q m other = ap (λ b. if b then Some n else first_from (suc n) ys q m) (other zero y refl) ∙ first_none (suc n) ys q m (λ j z at. other (suc j) z at)

-- what is of another pair than the others may be given besides
pub given_besides : (base n : ℕ) (is : List ImportValue) (us : List Under) (i : ImportValue) → AreGivenFor base is us → ((j : ℕ) (y : ImportValue) → slice_get is j ≡ Some y → is_pair i.place i.name y ≡ false) → MayBeGiven n us
    → MayBeGiven (suc n) (with_item us i.place (core_function i.name n))
given_besides base n is us i for other h =
    let none : given_as us i.place i.name ≡ None = for i.place i.name ∙ ap (option_map (λ (k : ℕ). record { kind = Func; index = k })) (first_none base is i.place i.name other) in
    record {
      texts = texts_more i.place (core_function i.name n) [] us refl h.texts;
      names = names_more i.place (core_function i.name n) us none h.names;
      functions = functions_more i.place (core_function i.name n) (suc n) us (record { kind = refl; index = omega arith }) (all_below_more n (suc n) us (omega arith) h.functions);
    }

in_front : {A B : Type 0} (f : A → B) (k : ℕ) (xs : List A) (j : ℕ) (y : B) → slice_get (map f (take k xs)) j ≡ Some y → (j < k) × (slice_get (map f xs) j ≡ Some y)
in_front f zero xs j y at = absurd cc
in_front f (suc k) [] j y at = absurd cc
in_front f (suc k) (x ∷ xs) zero y at = (omega arith, at)
in_front f (suc k) (x ∷ xs) (suc j) y at = (let h = in_front f k xs j y at in (let lt = h.0 in omega (arith, lt), h.1))

there_at : {A B : Type 0} (f : A → B) (xs : List A) (k : ℕ) (d : A) → k < length xs → slice_get (map f xs) k ≡ Some (f (get_or xs k d))
there_at f [] k d lt = absurd (omega (arith, lt))
there_at f (x ∷ xs) zero d lt = refl
there_at f (x ∷ xs) (suc k) d lt = there_at f xs k d (omega (arith, lt))

-- another import before it has another pair
other_pair : (i y : ImportValue) (j k : ℕ) (is : List ImportValue) → (j < k) × (slice_get is j ≡ Some y) → slice_get is k ≡ Some i → (RepeatsPair is → ⊥) → is_pair i.place i.name y ≡ false
other_pair i y j k is before at once = elim (cases_Bool (is_pair i.place i.name y)) [
  | inl same ↦
      let both = and_parts (bytes_eq i.place y.place) (bytes_eq i.name y.name) same in
      absurd (once (record {
        first = j;
        second = k;
        apart = before.0;
        one = y;
        other = i;
        one_there = before.1;
        other_there = at;
        same_place = sym ((bytes_eq-Decides i.place y.place).0 both.0);
        same_name = sym ((bytes_eq-Decides i.name y.name).0 both.1);
      }))
  | inr differ ↦ differ
]

-- one more import, whose pair no other has
pub may_one_more : (start old : List DefinitionValue) (is : List Import) (fs : List ℕ) (us vs : List Under) (k f index : ℕ) (d : Import) → k < length is → k < length fs → old ≡ start ++ map lowering_of (take k fs)
    → index ≡ index_behind old (lowering_of f) → vs ≡ with_item us (import_value (get_or is k d)).place (core_function (import_value (get_or is k d)).name index)
    → AreGivenFor (index_behind start (lowering_of 0)) (map import_value (take k is)) us → (RepeatsPair (map import_value is) → ⊥)
    → MayBeGiven (index_behind start (lowering_of 0) + k) us → MayBeGiven (index_behind start (lowering_of 0) + (k + 1)) vs
may_one_more start old is fs us vs k f index d lt low was count one for once h =
    let i = import_value (get_or is k d) in
    let base = index_behind start (lowering_of 0) in
    let of_functions : length (take k fs) ≡ k = take_length k fs low in
    let is_index : index ≡ base + k = count ∙ ap (λ ds. index_behind ds (lowering_of f)) was ∙ lowering_index start (take k fs) f ∙ ap (λ n. base + n) of_functions in
    let other = λ (j : ℕ) (y : ImportValue) (at : slice_get (map import_value (take k is)) j ≡ Some y). other_pair i y j k (map import_value is) (in_front import_value k is j y at) (there_at import_value is k d lt) once in
    let next = given_besides base (base + k) (map import_value (take k is)) us i for other h in
    let same : suc (base + k) ≡ base + (k + 1) = omega arith in
    subst (λ n. MayBeGiven n vs) same (subst (MayBeGiven (suc (base + k))) (ap (λ n. with_item us i.place (core_function i.name n)) (sym is_index) ∙ sym one) next)
