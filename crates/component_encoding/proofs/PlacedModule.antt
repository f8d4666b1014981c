-- The main module with its instance may stand behind what is imported.
use Rattle.std.proofs.Common.{◌≡◌, ◌<◌, ◌≤◌, ℕ, zero, suc, ◌+◌, List, [], ◌∷◌, ◌++◌, length, map, Option, Some, None, true, refl, sym, ap, subst, ◌∙◌, arith}
use Rattle.std.specs.Prelude.{slice_get}
use Rattle.std.specs.List.{AllByRecursion as Each}
use Rattle.binary_grammar.specs.Several.{grown}
use Rattle.distinct_names.specs.Names.{all_new}
use Rattle.component_instances.specs.declared.instances.CoreItem.{CoreItem as CoreIndex}
use Rattle.component_value_types.specs.Combinators.{NamedValue}
use Rattle.component_value_types.specs.declared.scope.Scope.{Scope as Counted}
use Rattle.component_entries.specs.Entries.{DefinedValue, nothing}
use Rattle.component_sections.specs.Component.{DefinitionValue, a_core_module, with_definition, Follow}
use Rattle.component_value_types.specs.Scope.{no_scope}
use Rattle.component_builder.specs.Builder.{with_space, scope_of, index_behind}
use Rattle.type_writing.specs.Passed.type_meaning-Items.{Item, or_nothing}
use Rattle.linked_imports.specs.Passed.component_meaning-Core.{MainModule, CoreItem}
use Rattle.linked_imports.specs.Passed.component_meaning-Spaces.{lowering, meaning}
use Rattle.component_encoding.specs.Given.{Under, IsFunctionBelow, item_names, MayBeGiven}
use Rattle.component_encoding.specs.Instances.{lowering_of, instance_of, arguments_from, instantiation, AreLowerable}
use Rattle.component_encoding.specs.Placing.{ArePlaced, known_behind, StayPlaced}
use Rattle.component_encoding.proofs.Counts.{Lengths}
use Rattle.component_encoding.proofs.Behind.{scope_from, known_counts, known_with, placed_with, names_with}
use Rattle.component_encoding.proofs.Following.{IsFunctionThere, module_follows, lower_follows, inline_follows, instantiation_follows}
use Rattle.component_encoding.proofs.Groups.{grown_both, lowered_count, instance_count}
use Rattle.std.proofs.lemmas.Option.{slice_get_within}
use Rattle.linked_imports.proofs.Passed.link_table-Pairwise.{placed}
use Rattle.component_encoding.proofs.Lists.{get_there, each_of}

-- ---- definitions one behind the other

follow_both : (k : DefinedValue) (xs ys : List DefinitionValue) → Follow k xs → Follow (grown with_definition k xs) ys → Follow k (xs ++ ys)
follow_both k [] ys h more = more
follow_both k (x ∷ xs) ys h more = (h.0, follow_both (with_definition k x) xs ys h.1 more)

-- ---- functions that are there

there_below : (xs : List Item) (i : ℕ) (found : Option Item) → slice_get xs i ≡ found → (c : CoreItem) → lowering i [] (or_nothing found) ≡ Some c → i < length xs
there_below xs i None e c h = absurd cc
there_below [] i (Some x) e c h = absurd cc
there_below (y ∷ ys) zero (Some x) e c h = omega arith
there_below (y ∷ ys) (suc i) (Some x) e c h = (let less = slice_get_within ys i x e in omega (arith, less))

module _ (main : MainModule) (ds : List DefinitionValue) where
  lowered_below : (fs : List ℕ) → AreLowerable main (meaning main ds) fs → Each (λ f. f < (known_behind ds).scope.functions) fs
  lowered_below fs low = each_of _ fs (λ f has. (
      let place = placed fs f has in
      let below = slice_get_within fs place.0 f place.1 in
      let size = low.so_many in
      let import = get_there main.imports place.0 (omega (arith, size, below)) in
      let one = low.each place.0 import.0 f import.1 place.1 in
      let less = there_below (meaning main ds).scope.functions f (slice_get (meaning main ds).scope.functions f) refl one.0 one.1 in
      let same = ap (λ (l : Lengths). l.functions) (known_counts main ds) in
      omega (arith, less, same)
      ))

-- ---- lowerings

follow_lowerings : (k : DefinedValue) (fs : List ℕ) → Each (λ f. f < k.scope.functions) fs → Follow k (map lowering_of fs)
follow_lowerings k [] h = tt
follow_lowerings k (f ∷ fs) h = (lower_follows k f h.0, follow_lowerings (with_definition k (lowering_of f)) fs h.1)

lowerings_export : (k : DefinedValue) (fs : List ℕ) → (grown with_definition k (map lowering_of fs)).exports ≡ k.exports
lowerings_export k [] = refl
lowerings_export k (f ∷ fs) = lowerings_export (with_definition k (lowering_of f)) fs

lowered_modules : (c : Counted) (fs : List ℕ) → (grown with_space c (map lowering_of fs)).core_modules ≡ c.core_modules
lowered_modules c [] = refl
lowered_modules c (f ∷ fs) = lowered_modules (with_space c (lowering_of f)) fs

-- ---- instances of core functions

all_there : (s : Counted) (n : ℕ) (xs : List (NamedValue CoreIndex)) → n ≤ s.core_functions → Each (IsFunctionBelow n) xs → Each (IsFunctionThere s) xs
all_there s n [] le h = tt
all_there s n (x ∷ xs) le h = (let low = h.0.index in record { kind = h.0.kind; index = omega (arith, low, le) }, all_there s n xs le h.1)

follow_instances : (k : DefinedValue) (n : ℕ) (us : List Under) → n ≤ k.scope.core_functions → Each (λ u. all_new [] (item_names u) ≡ true) us → Each (λ u. Each (IsFunctionBelow n) u.items) us → Follow k (map instance_of us)
follow_instances k n [] le names low = tt
follow_instances k n (u ∷ us) le names low = (inline_follows k u.items (all_there k.scope n u.items le low.0) names.0, follow_instances (with_definition k (instance_of u)) n us le names.1 low.1)

instances_export : (k : DefinedValue) (us : List Under) → (grown with_definition k (map instance_of us)).exports ≡ k.exports
instances_export k [] = refl
instances_export k (u ∷ us) = instances_export (with_definition k (instance_of u)) us

instance_modules : (c : Counted) (us : List Under) → (grown with_space c (map instance_of us)).core_modules ≡ c.core_modules
instance_modules c [] = refl
instance_modules c (u ∷ us) = instance_modules (with_space c (instance_of u)) us

-- ---- arguments

arguments_below : (n m : ℕ) (us : List Under) → n + length us ≤ m → Each (λ (x : NamedValue ℕ). x.item < m) (arguments_from n us)
arguments_below n m [] le = tt
arguments_below n m (u ∷ us) le = (omega (arith, le), arguments_below (suc n) m us (omega (arith, le)))

argument_names : (n : ℕ) (us : List Under) → map (λ (x : NamedValue ℕ). x.name) (arguments_from n us) ≡ map (λ (u : Under). u.text) us
argument_names n [] = refl
argument_names n (u ∷ us) = ap (λ ns. u.text ∷ ns) (argument_names (suc n) us)

-- ---- all of it

known_both : (ds new xs : List DefinitionValue) → new ≡ ds ++ xs → known_behind new ≡ grown with_definition (known_behind ds) xs
known_both ds new xs same = ap known_behind same ∙ grown_both with_definition nothing ds xs

module _ (main : MainModule) (ds es low gs last : List DefinitionValue) (bytes fs : List ℕ) (us : List Under) (m : ℕ) (args : List (NamedValue ℕ)) where
  counts_there : es ≡ ds ++ a_core_module bytes ∷ [] → low ≡ es ++ map lowering_of fs → gs ≡ low ++ map instance_of us → m ≡ index_behind ds (a_core_module bytes)
      → (m < (known_behind gs).scope.core_modules) × (index_behind low (instance_of (record { text = []; items = [] })) + length us ≤ (known_behind gs).scope.core_instances)
  counts_there first second third is_module =
      let known : (known_behind gs).scope ≡ scope_of gs = scope_from nothing gs in
      let grown_gs : scope_of gs ≡ grown with_space (scope_of low) (map instance_of us) = ap scope_of third ∙ grown_both with_space no_scope low (map instance_of us) in
      let grown_low : scope_of low ≡ grown with_space (scope_of es) (map lowering_of fs) = ap scope_of second ∙ grown_both with_space no_scope es (map lowering_of fs) in
      let grown_es : scope_of es ≡ with_space (scope_of ds) (a_core_module bytes) = ap scope_of first ∙ grown_both with_space no_scope ds (a_core_module bytes ∷ []) in
      let modules : (known_behind gs).scope.core_modules ≡ suc (scope_of ds).core_modules =
      ap (λ (c : Counted). c.core_modules) (known ∙ grown_gs) ∙ instance_modules (scope_of low) us ∙ ap (λ (c : Counted). c.core_modules) grown_low ∙ lowered_modules (scope_of es) fs ∙ ap (λ (c : Counted). c.core_modules) grown_es in
      let instances : (known_behind gs).scope.core_instances ≡ (scope_of low).core_instances + length us = ap (λ (c : Counted). c.core_instances) (known ∙ grown_gs) ∙ instance_count (scope_of low) us in
      (omega (arith, modules, is_module), omega (arith, instances))

  functions_there : es ≡ ds ++ a_core_module bytes ∷ [] → low ≡ es ++ map lowering_of fs → index_behind es (lowering_of 0) + length fs ≤ (known_behind low).scope.core_functions
  functions_there first second =
      let known : (known_behind low).scope ≡ scope_of low = scope_from nothing low in
      let grown_low : scope_of low ≡ grown with_space (scope_of es) (map lowering_of fs) = ap scope_of second ∙ grown_both with_space no_scope es (map lowering_of fs) in
      let functions : (known_behind low).scope.core_functions ≡ (scope_of es).core_functions + length fs = ap (λ (c : Counted). c.core_functions) (known ∙ grown_low) ∙ lowered_count (scope_of es) fs in
      omega (arith, functions)

  pub module_placed : es ≡ ds ++ a_core_module bytes ∷ [] → low ≡ es ++ map lowering_of fs → gs ≡ low ++ map instance_of us → last ≡ gs ++ instantiation m args ∷ [] → m ≡ index_behind ds (a_core_module bytes)
      → args ≡ arguments_from (index_behind low (instance_of (record { text = []; items = [] }))) us → MayBeGiven (index_behind es (lowering_of 0) + length fs) us → AreLowerable main (meaning main ds) fs → StayPlaced ds last
  module_placed first second third fourth is_module are_arguments given lowerable =
      let known_es : known_behind es ≡ with_definition (known_behind ds) (a_core_module bytes) = known_with ds es (a_core_module bytes) first in
      let known_low = known_both es low (map lowering_of fs) second in
      let known_gs = known_both low gs (map instance_of us) third in
      let n = index_behind low (instance_of (record { text = []; items = [] })) in
      let there = counts_there first second third is_module in
      record {
        placed = λ h.
            let one = placed_with ds es (a_core_module bytes) first (module_follows (known_behind ds) bytes) h in
            let functions = subst (λ (k : DefinedValue). Each (λ f. f < k.scope.functions) fs) (sym known_es) (lowered_below main ds fs lowerable) in
            let two = subst ArePlaced (sym second) (follow_both nothing es (map lowering_of fs) one (follow_lowerings (known_behind es) fs functions)) in
            let instances = follow_instances (known_behind low) (index_behind es (lowering_of 0) + length fs) us (functions_there first second) given.names given.functions in
            let three = subst ArePlaced (sym third) (follow_both nothing low (map instance_of us) two instances) in
            let low_arguments = subst (Each (λ (x : NamedValue ℕ). x.item < (known_behind gs).scope.core_instances)) (sym are_arguments) (arguments_below n (known_behind gs).scope.core_instances us there.1) in
            let differ = ap (λ (xs : List (NamedValue ℕ)). all_new [] (map (λ x. x.name) xs)) are_arguments ∙ ap (all_new []) (argument_names n us) ∙ given.texts in
            placed_with gs last (instantiation m args) fourth (instantiation_follows (known_behind gs) m args there.0 low_arguments differ) three;
        names =
            names_with gs last (instantiation m args) fourth ∙ ap (λ (k : DefinedValue). k.exports) known_gs ∙ instances_export (known_behind low) us
            ∙ ap (λ (k : DefinedValue). k.exports) known_low ∙ lowerings_export (known_behind es) fs ∙ ap (λ (k : DefinedValue). k.exports) known_es;
      }
