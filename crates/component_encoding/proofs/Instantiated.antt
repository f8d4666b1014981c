-- The main module is instantiated with the lowerings that it asks for.
use Rattle.std.proofs.Common.{◌≡◌, ◌⊎◌, ℕ, zero, suc, ◌+◌, ◌<◌, List, [], ◌∷◌, ◌++◌, length, true, Option, Some, None, refl, sym, ap, subst, ◌∙◌, arith, inl, inr}
use Rattle.std.proofs.lemmas.Option.{slice_get_within}
use Rattle.std.proofs.lemmas.List.{append-nil, length-map}
use Rattle.std.proofs.lemmas.List.Sums.{fold-append}
use Rattle.std.proofs.lemmas.Grind.{flat_map-append}
use Rattle.std.proofs.lemmas.Slice.Eq.{bytes_eq-Decides}
use Rattle.std.specs.Prelude.{if◌then◌else◌, fold, map, slice_get, option_and_then, option_map, is_some}
use Rattle.std.specs.List.{list_all}
use Rattle.wasm_types.specs.declared.types.ExportKind.TheVariants as kinds
use Rattle.wasm_types.specs.Entries.{ImportValue}
use Rattle.wasm_format.specs.Module.{ModuleValue}
use Rattle.wit_order.specs.Order.{Has}
use Rattle.component_sections.specs.Component.{DefinitionValue, a_core_module}
use Rattle.component_builder.specs.Builder.{index_behind}
use Rattle.component_value_types.specs.Combinators.{NamedValue}
use Rattle.linked_imports.specs.Passed.component_meaning-Core.{matches, CoreImport, MainModule, CoreItem, of_main, of_items, CoreInstance}
use Rattle.linked_imports.specs.Passed.component_meaning-Spaces.{Spaces, no_spaces, joined, after, meaning, given_for, if_matches, exports_of, main_instance, is_main, instantiated, given_by, all_given}
use Rattle.linked_imports.proofs.Passed.component_meaning-Staying.{spaces_end}
use Rattle.core_links.specs.Imports.{RepeatsPair}
use Rattle.linked_imports.specs.Passed.right_components-Main.{core_import, main_of}
use Rattle.wit_arena.proofs.Lists.{get_last}
use Rattle.component_encoding.specs.Given.{Under, given_as, AreGivenFor}
use Rattle.component_encoding.specs.Instances.{lowering_of, instance_of, arguments_from, instantiation, lowered, AreLowerable, IsInstantiated}
use Rattle.component_encoding.proofs.Counts.{Lengths, counts}
use Rattle.component_encoding.proofs.Growth.{next}
use Rattle.component_encoding.proofs.Lookups.{first_is}
use Rattle.component_encoding.proofs.Written.{with_functions, lowerings, with_instances, one_instance, made_of, instances, item_of, argument_is}

-- ---- those that are there

abbrev values : {A : Type 0} → List (Option A) → List A
values [] = []
values (None ∷ xs) = values xs
values (Some x ∷ xs) = x ∷ values xs

abbrev AreThere : {A : Type 0} → List (Option A) → Type 0
AreThere {A} xs = (k : ℕ) (x : Option A) → slice_get xs k ≡ Some x → (a : A) × (x ≡ Some a)

all_values : {A : Type 0} (xs : List (Option A)) → AreThere xs → map (λ (a : A). Some a) (values xs) ≡ xs
all_values [] h = refl
all_values (None ∷ xs) h = (let e = h zero None refl in absurd cc)
all_values (Some x ∷ xs) h = ap (λ l. Some x ∷ l) (all_values xs (λ k y at. h (suc k) y at))

all_some : {A : Type 0} (xs : List A) → list_all is_some (map (λ (a : A). Some a) xs) ≡ true
all_some [] = refl
all_some (x ∷ xs) = all_some xs

-- ---- item by item

get_map : {A B : Type 0} (f : A → B) (xs : List A) (k : ℕ) (x : A) → slice_get xs k ≡ Some x → slice_get (map f xs) k ≡ Some (f x)
get_map f [] k x at = absurd cc
get_map f (y ∷ xs) zero x at = (let e : y ≡ x = cc in ap (λ z. Some (f z)) e)
get_map f (y ∷ xs) (suc k) x at = get_map f xs k x at

map_got : {A B : Type 0} (f : A → B) (xs : List A) (k : ℕ) (y : B) → slice_get (map f xs) k ≡ Some y → (x : A) × (slice_get xs k ≡ Some x) × (y ≡ f x)
map_got f [] k y at = absurd cc
map_got f (x ∷ xs) zero y at = (x, refl, (let e : f x ≡ y = cc in sym e))
map_got f (x ∷ xs) (suc k) y at = map_got f xs k y at

-- two lists with the same items are one
by_items : {A : Type 0} (xs ys : List A) → length xs ≡ length ys → ((k : ℕ) (x y : A) → slice_get xs k ≡ Some x → slice_get ys k ≡ Some y → x ≡ y) → xs ≡ ys
by_items [] [] n h = refl
by_items [] (y ∷ ys) n h = absurd (omega (arith, n))
by_items (x ∷ xs) [] n h = absurd (omega (arith, n))
by_items (x ∷ xs) (y ∷ ys) n h = λ i. h zero x y refl refl i ∷ by_items xs ys (omega (arith, n)) (λ k a b at bt. h (suc k) a b at bt) i

get_or_not : {A : Type 0} (xs : List A) (k : ℕ) → k < length xs → (x : A) × (slice_get xs k ≡ Some x)
get_or_not [] k lt = absurd (omega (arith, lt))
get_or_not (x ∷ xs) zero lt = (x, refl)
get_or_not (x ∷ xs) (suc k) lt = get_or_not xs k (omega (arith, lt))

behind : {A : Type 0} (xs ys : List A) (n k : ℕ) → n ≡ length xs + k → slice_get (xs ++ ys) n ≡ slice_get ys k
behind [] ys n k e = ap (slice_get ys) (let h : n ≡ k = omega (arith, e) in h)
behind (x ∷ xs) ys zero k e = absurd (omega (arith, e))
behind (x ∷ xs) ys (suc n) k e = behind xs ys n k (omega (arith, e))

-- ---- the spaces, definition by definition

-- with a module behind its own
abbrev with_module : Spaces → List ℕ → Spaces
with_module s bytes = record s { modules = s.modules ++ bytes ∷ [] }

one_module : (s : Spaces) (bytes : List ℕ) → joined s (record no_spaces { modules = bytes ∷ [] }) ≡ with_module s bytes
one_module s bytes = λ i. record {
  scope = ap (λ (t : Spaces). t.scope) (spaces_end s) i;
  modules = s.modules ++ bytes ∷ [];
  core_instances = append-nil s.core_instances i;
  core_functions = append-nil s.core_functions i;
  core_tables = append-nil s.core_tables i;
  core_memories = append-nil s.core_memories i;
  core_globals = append-nil s.core_globals i;
}

more : (main : MainModule) (xs ys : List DefinitionValue) → meaning main (xs ++ ys) ≡ fold (after main) (meaning main xs) ys
unfolding meaning
more main xs ys = fold-append (after main) no_spaces xs ys

-- the module, and the lowerings and instances behind it
abbrev with_all : Spaces → List ℕ → List ℕ → List Under → Spaces
with_all s bytes fs us =
    let t = with_functions (with_module s bytes) (map (lowered s) fs) in
    with_instances t (map (made_of t) us)

all_written : (main : MainModule) (ds es : List DefinitionValue) (bytes fs : List ℕ) (us : List Under) → es ≡ ((ds ++ a_core_module bytes ∷ []) ++ map lowering_of fs) ++ map instance_of us
    → meaning main es ≡ with_all (meaning main ds) bytes fs us
all_written main ds es bytes fs us is =
    let s = meaning main ds in
    let first : meaning main (ds ++ a_core_module bytes ∷ []) ≡ with_module s bytes = next main ds (a_core_module bytes) ∙ one_module s bytes in
    let second : meaning main ((ds ++ a_core_module bytes ∷ []) ++ map lowering_of fs) ≡ with_functions (with_module s bytes) (map (lowered s) fs) =
    more main (ds ++ a_core_module bytes ∷ []) (map lowering_of fs) ∙ ap (λ t. fold (after main) t (map lowering_of fs)) first ∙ lowerings main (with_module s bytes) fs in
    ap (meaning main) is ∙ more main ((ds ++ a_core_module bytes ∷ []) ++ map lowering_of fs) (map instance_of us) ∙ ap (λ t. fold (after main) t (map instance_of us)) second
    ∙ instances main (with_functions (with_module s bytes) (map (lowered s) fs)) us

-- ---- what is given

module _ (m : ModuleValue) (bytes : List ℕ) (s : Spaces) (fs : List ℕ) (us : List Under) (base : ℕ) where
  abbrev given_all : List (Option CoreItem)
  given_all = map (given_for (with_all s bytes fs us).core_instances (arguments_from (length s.core_instances) us)) (main_of bytes m).imports

  given_one : (k : ℕ) (i : ImportValue) (f : ℕ) (c : CoreItem) → base ≡ length s.core_functions → AreGivenFor base m.imports us → (RepeatsPair m.imports → ⊥)
      → slice_get m.imports k ≡ Some i → slice_get fs k ≡ Some f → lowered s f ≡ Some c → matches (core_import m i).ty c.ty ≡ true
      → given_for (with_all s bytes fs us).core_instances (arguments_from (length s.core_instances) us) (core_import m i) ≡ Some c
  given_one k i f c from given once at of low match =
      let t = with_functions (with_module s bytes) (map (lowered s) fs) in
      let found : given_as us i.place i.name ≡ Some (record { kind = kinds.Func; index = base + k }) = given i.place i.name ∙ ap (option_map (λ (n : ℕ). record { kind = kinds.Func; index = n })) (first_is base m.imports k i once at) in
      let there : slice_get (s.core_functions ++ map (lowered s) fs) (base + k) ≡ Some (lowered s f) =
      behind s.core_functions (map (lowered s) fs) (base + k) k (ap (λ n. n + k) from) ∙ get_map (lowered s) fs k f of in
      ap (if_matches (core_import m i).ty)
      (argument_is t s.core_instances (length s.core_instances) us i.place i.name refl
      ∙ ap (item_of t) found
      ∙ ap (option_and_then (λ x. x)) there
      ∙ low)
      ∙ ap (λ b. if b then Some c else None) match

  are_given : base ≡ length s.core_functions → AreGivenFor base m.imports us → (RepeatsPair m.imports → ⊥) → AreLowerable (main_of bytes m) s fs → given_all ≡ map (lowered s) fs
  are_given from given once low = by_items given_all (map (lowered s) fs) so_many (λ k x y at bt.
      let one = map_got (given_for (with_all s bytes fs us).core_instances (arguments_from (length s.core_instances) us)) (main_of bytes m).imports k x at in
      let import = map_got (core_import m) m.imports k one.0 one.1 in
      let function = map_got (lowered s) fs k y bt in
      let can = low.each k one.0 function.0 one.1 function.1 in
      one.2
      ∙ ap (given_for (with_all s bytes fs us).core_instances (arguments_from (length s.core_instances) us)) import.2
      ∙ given_one k import.0 function.0 can.0 from given once import.1 function.1 can.1 (subst (λ (i : CoreImport). matches i.ty can.0.ty ≡ true) import.2 can.2)
      ∙ sym can.1
      ∙ sym function.2)
    where
      so_many : length given_all ≡ length (map (lowered s) fs)
      so_many =
          let a = length-map (main_of bytes m).imports (given_for (with_all s bytes fs us).core_instances (arguments_from (length s.core_instances) us)) in
          let b = length-map fs (lowered s) in
          let c = low.so_many in
          omega (arith, a, b, c)

-- ---- all together

are_there : (main : MainModule) (s : Spaces) (fs : List ℕ) → AreLowerable main s fs → AreThere (map (lowered s) fs)
are_there main s fs low k x at =
    let function = map_got (lowered s) fs k x at in
    let import = get_or_not main.imports k (let a = slice_get_within fs k function.0 function.1 in let n = low.so_many in omega (arith, a, n)) in
    let can = low.each k import.0 function.0 import.1 function.1 in
    (can.0, function.2 ∙ can.1)

no_given : (s : Spaces) (us : List Under) → all_given (map (made_of s) us) ≡ []
no_given s [] = refl
no_given s (u ∷ us) = no_given s us

has_parts : {A : Type 0} (xs ys : List A) (x : A) → Has (xs ++ ys) x → Has xs x ⊎ Has ys x
has_parts [] ys x h = inr h
has_parts (y ∷ xs) ys x h = elim h as (λ _. Has (y ∷ xs) x ⊎ Has ys x) [
  | inl e ↦ inl (inl e)
  | inr more ↦ elim (has_parts xs ys x more) as (λ _. Has (y ∷ xs) x ⊎ Has ys x) [ inl a ↦ inl (inr a) | inr b ↦ inr b ]
]

made_source : (s : Spaces) (us : List Under) (c : CoreInstance) → Has (map (made_of s) us) c → c.source ≡ of_items
made_source s [] c h = absurd h
made_source s (u ∷ us) c h = elim h as (λ _. c.source ≡ of_items) [ inl e ↦ ap (λ (x : CoreInstance). x.source) e | inr more ↦ made_source s us c more ]

module _ (m : ModuleValue) (bytes : List ℕ) (s : Spaces) (fs : List ℕ) (us : List Under) (base : ℕ) where
  abbrev given : List CoreItem
  given = values (map (lowered s) fs)

  abbrev instance : CoreInstance
  instance = record { source = of_main (map (λ (c : CoreItem). Some c) given); exports = exports_of (main_of bytes m) (length (with_all s bytes fs us).core_instances) }

  instance_is : base ≡ length s.core_functions → AreGivenFor base m.imports us → (RepeatsPair m.imports → ⊥) → AreLowerable (main_of bytes m) s fs
      → main_instance (main_of bytes m) (length (with_all s bytes fs us).core_instances) (given_all m bytes s fs us base) ≡ instance
  instance_is from are once low =
      let e : given_all m bytes s fs us base ≡ map (λ (c : CoreItem). Some c) given = are_given m bytes s fs us base from are once low ∙ sym (all_values (map (lowered s) fs) (are_there (main_of bytes m) s fs low)) in
      ap (main_instance (main_of bytes m) (length (with_all s bytes fs us).core_instances)) e
      ∙ ap (λ b. record { source = of_main (map (λ (c : CoreItem). Some c) given); exports = if b then exports_of (main_of bytes m) (length (with_all s bytes fs us).core_instances) else [] }) (all_some given)

  is_instantiated : (i : ℕ) → i ≡ length (with_all s bytes fs us).core_instances → AreLowerable (main_of bytes m) s fs → IsInstantiated (main_of bytes m) s (with_instances (with_all s bytes fs us) (instance ∷ [])) fs i
  is_instantiated i at low =
      let t = with_functions (with_module s bytes) (map (lowered s) fs) in
      let made = map (made_of t) us in
      let all = all_values (map (lowered s) fs) (are_there (main_of bytes m) s fs low) in
      record {
        scope = refl;
        modules = refl;
        given = given;
        each = record {
          so_many = (let a = ap length all in let b = length-map given (λ (c : CoreItem). Some c) in let c = length-map fs (lowered s) in omega (arith, a, b, c));
          each = λ k f c of there. (
              let x : Some (Some c) ≡ Some (lowered s f) = sym (get_map (λ (y : CoreItem). Some y) given k c there) ∙ ap (λ l. slice_get l k) all ∙ get_map (lowered s) fs k f of in
              cc
              );
        };
        all = flat_map-append (λ (x : CoreInstance). given_by x.source) (s.core_instances ++ made) (instance ∷ [])
            ∙ ap (λ l. l ++ map (λ (c : CoreItem). Some c) given ∷ []) (flat_map-append (λ (x : CoreInstance). given_by x.source) s.core_instances made ∙ ap (λ l. all_given s.core_instances ++ l) (no_given t us) ∙ append-nil (all_given s.core_instances));
        only = λ c has. elim (has_parts (s.core_instances ++ made) (instance ∷ []) c has) [
          | inl front ↦ elim (has_parts s.core_instances made c front) [ inl old ↦ inl old | inr new ↦ inr (inl (made_source t us c new)) ]
          | inr last ↦ elim last [ inl e ↦ inr (inr (ap (λ (x : CoreInstance). x.source) e)) | inr none ↦ absurd none ]
        ];
        there = ap (slice_get ((s.core_instances ++ made) ++ instance ∷ [])) at ∙ get_last (s.core_instances ++ made) instance
            ∙ ap (λ n. Some (record { source = of_main (map (λ (c : CoreItem). Some c) given); exports = exports_of (main_of bytes m) n })) (sym at);
      }

-- the module that is there is the main module
found_main : (main : MainModule) (ms : List (List ℕ)) (k : ℕ) → k ≡ length ms → is_main main (slice_get (ms ++ main.bytes ∷ []) k) ≡ true
found_main main ms k at = ap (λ n. is_main main (slice_get (ms ++ main.bytes ∷ []) n)) at ∙ ap (is_main main) (get_last ms main.bytes) ∙ (bytes_eq-Decides main.bytes main.bytes).1 refl

pub instantiates : (m : ModuleValue) (bytes : List ℕ) (ds es new : List DefinitionValue) (fs : List ℕ) (us : List Under) (base k i : ℕ) (args : List (NamedValue ℕ))
    → base ≡ length (meaning (main_of bytes m) ds).core_functions → k ≡ length (meaning (main_of bytes m) ds).modules → args ≡ arguments_from (length (meaning (main_of bytes m) ds).core_instances) us
    → es ≡ ((ds ++ a_core_module bytes ∷ []) ++ map lowering_of fs) ++ map instance_of us → new ≡ es ++ instantiation k args ∷ [] → i ≡ index_behind es (instantiation k args)
    → AreGivenFor base m.imports us → (RepeatsPair m.imports → ⊥) → AreLowerable (main_of bytes m) (meaning (main_of bytes m) ds) fs
    → IsInstantiated (main_of bytes m) (meaning (main_of bytes m) ds) (meaning (main_of bytes m) new) fs i
instantiates m bytes ds es new fs us base k i args from at_module are_args written last index are once low =
    let main = main_of bytes m in
    let s = meaning main ds in
    let t = with_all s bytes fs us in
    let same : meaning main es ≡ t = all_written main ds es bytes fs us written in
    let count : i ≡ length t.core_instances = index ∙ ap (λ (l : Lengths). l.core_instances) (counts main es) ∙ ap (λ (u : Spaces). length u.core_instances) same in
    let behind : meaning main new ≡ after main t (instantiation k args) = ap (meaning main) last ∙ next main es (instantiation k args) ∙ ap (λ u. after main u (instantiation k args)) same in
    let found : is_main main (slice_get t.modules k) ≡ true = found_main main s.modules k at_module in
    let made : after main t (instantiation k args) ≡ with_instances t (instance m bytes s fs us base ∷ []) =
    one_instance t (instantiated main t (is_main main (slice_get t.modules k)) args)
    ∙ ap (λ b. with_instances t (instantiated main t b args ∷ [])) found
    ∙ ap (λ a. with_instances t (instantiated main t true a ∷ [])) are_args
    ∙ ap (λ x. with_instances t (x ∷ [])) (instance_is m bytes s fs us base from are once low) in
    subst (λ u. IsInstantiated main s u fs i) (sym (behind ∙ made)) (is_instantiated m bytes s fs us base i count low)
