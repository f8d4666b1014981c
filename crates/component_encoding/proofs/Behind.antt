-- What is known behind definitions: as many of each sort as index spaces have.
use Rattle.std.proofs.Common.{◌≡◌, ◌<◌, ℕ, ◌+◌, Bool, List, [], ◌∷◌, ◌++◌, length, Option, Some, refl, sym, ap, subst, ◌∙◌, arith, true, zero, suc}
use Rattle.std.proofs.lemmas.Bool.{and_parts}
use Rattle.std.proofs.lemmas.Option.{slice_get_within}
use Rattle.std.specs.Prelude.{slice_get, option_and_then, string_bytes}
use Rattle.binary_grammar.specs.Several.{grown}
use Rattle.distinct_names.specs.Names.{is_new, with_name, all_new}
use Rattle.wit_types.specs.declared.function.Function.{Function}
use Rattle.wasm_types.specs.declared.types.ExportKind.TheVariants as kinds
use Rattle.component_entries.specs.Entries.{DefinedValue, nothing}
use Rattle.component_sections.specs.Component.{DefinitionValue, with_definition, exports_behind, Follows}
use Rattle.linked_imports.proofs.Passed.type_sinks-Placed.{follow_push, named}
use Rattle.component_builder.specs.Builder.{with_space}
use Rattle.linked_imports.specs.Passed.component_meaning-Core.{MainModule, CoreItem}
use Rattle.linked_imports.specs.Passed.component_meaning-Spaces.{meaning, core_at}
use Rattle.component_encoding.specs.Growing.{IsMainInstance}
use Rattle.linked_imports.specs.Passed.component_imports-Functions.{function_names}
use Rattle.component_encoding.specs.Placing.{ArePlaced, known_behind, names_exported, StayPlaced, StayPlacedWith}
use Rattle.component_encoding.proofs.Counts.{Lengths, counted, lengths, counts}

-- ---- counts

pub scope_from : (k : DefinedValue) (ds : List DefinitionValue) → (grown with_definition k ds).scope ≡ grown with_space k.scope ds
scope_from k [] = refl
scope_from k (d ∷ ds) = scope_from (with_definition k d) ds

pub known_counts : (main : MainModule) (ds : List DefinitionValue) → counted (known_behind ds).scope ≡ lengths (meaning main ds)
known_counts main ds = ap counted (scope_from nothing ds) ∙ counts main ds

core_below : (xs : List (Option CoreItem)) (k : ℕ) (x : CoreItem) → option_and_then (λ y. y) (slice_get xs k) ≡ Some x → k < length xs
core_below [] k x at = absurd cc
core_below (y ∷ xs) zero x at = omega arith
core_below (y ∷ xs) (suc k) x at = (let h = core_below xs k x at in omega (arith, h))

module _ (main : MainModule) (ds : List DefinitionValue) where
  pub instance_below : (i : ℕ) → IsMainInstance main (meaning main ds) i → i < (known_behind ds).scope.core_instances
  instance_below i m =
      let below = slice_get_within (meaning main ds).core_instances i m.instance m.there in
      let same = ap (λ (l : Lengths). l.core_instances) (known_counts main ds) in
      omega (arith, below, same)

  pub function_below : (i : ℕ) (c : CoreItem) → core_at kinds.Func (meaning main ds) i ≡ Some c → i < (known_behind ds).scope.core_functions
  function_below i c at =
      let below = core_below (meaning main ds).core_functions i c at in
      let same = ap (λ (l : Lengths). l.core_functions) (known_counts main ds) in
      omega (arith, below, same)

  pub memory_below : (i : ℕ) (c : CoreItem) → core_at kinds.Memory (meaning main ds) i ≡ Some c → i < (known_behind ds).scope.core_memories
  memory_below i c at =
      let below = core_below (meaning main ds).core_memories i c at in
      let same = ap (λ (l : Lengths). l.core_memories) (known_counts main ds) in
      omega (arith, below, same)

-- ---- one more

pub placed_with : (ds new : List DefinitionValue) (d : DefinitionValue) → new ≡ ds ++ d ∷ [] → Follows (known_behind ds) d → ArePlaced ds → ArePlaced new
placed_with ds new d same one h = subst ArePlaced (sym same) (follow_push nothing ds d h one)

known_push : (k : DefinedValue) (ds : List DefinitionValue) (d : DefinitionValue) → grown with_definition k (ds ++ d ∷ []) ≡ with_definition (grown with_definition k ds) d
known_push k [] d = refl
known_push k (x ∷ ds) d = known_push (with_definition k x) ds d

pub known_with : (ds new : List DefinitionValue) (d : DefinitionValue) → new ≡ ds ++ d ∷ [] → known_behind new ≡ with_definition (known_behind ds) d
known_with ds new d same = ap known_behind same ∙ known_push nothing ds d

pub names_with : (ds new : List DefinitionValue) (d : DefinitionValue) → new ≡ ds ++ d ∷ [] → names_exported new ≡ exports_behind (names_exported ds) d
names_with ds new d same = ap (λ (k : DefinedValue). k.exports) (known_with ds new d same)

-- ---- one behind the other

pub stay_placed : (a b c : List DefinitionValue) → StayPlaced a b → StayPlaced b c → StayPlaced a c
stay_placed a b c one two = record { placed = λ h. two.placed (one.placed h); names = two.names ∙ one.names }

pub stay_placed_with : (a b c : List DefinitionValue) (name : List ℕ) → StayPlaced a b → StayPlacedWith b c name → StayPlacedWith a c name
stay_placed_with a b c name one two = record {
  placed = λ fresh h. two.placed (ap (λ ns. is_new ns name) one.names ∙ fresh) (one.placed h);
  names = two.names ∙ ap (λ ns. with_name ns name) one.names;
}

-- ---- functions that are exported one by one

-- all but so many of the first
abbrev pub others : ℕ → List Function → List Function
others zero fs = fs
others (suc n) [] = []
others (suc n) (f ∷ fs) = others n fs

-- so far they are placed, and the names of the others are still new
abbrev pub StayPlacedTo : List DefinitionValue → List DefinitionValue → List Function → ℕ → Type 0
StayPlacedTo start new fs n = all_new (names_exported start) (function_names fs) ≡ true → ArePlaced start → (all_new (names_exported new) (function_names (others n fs)) ≡ true) × ArePlaced new

others_at : (fs : List Function) (n : ℕ) (f : Function) → slice_get fs n ≡ Some f → others n fs ≡ f ∷ others (n + 1) fs
others_at [] n f at = absurd cc
others_at (g ∷ gs) zero f at = (let same : g ≡ f = cc in ap (λ x. x ∷ gs) same)
others_at (g ∷ gs) (suc n) f at = (let same : suc (n + 1) ≡ suc n + 1 = omega arith in others_at gs n f at ∙ ap (λ k. f ∷ others k (g ∷ gs)) same)

pub placed_next : (start old new : List DefinitionValue) (fs : List Function) (n : ℕ) (f : Function) → slice_get fs n ≡ Some f → StayPlacedTo start old fs n → StayPlacedWith old new (string_bytes f.name) → StayPlacedTo start new fs (n + 1)
placed_next start old new fs n f at was one differ placed =
    let before = was differ placed in
    let split = and_parts (is_new (names_exported old) (string_bytes f.name)) (all_new (names_exported old ++ string_bytes f.name ∷ []) (function_names (others (n + 1) fs))) (ap (λ gs. all_new (names_exported old) (function_names gs)) (sym (others_at fs n f at)) ∙ before.0) in (
      ap (λ ns. all_new ns (function_names (others (n + 1) fs))) (one.names ∙ named (names_exported old) (string_bytes f.name) split.0) ∙ split.1,
      one.placed split.0 before.1,
    )
