-- What lowerings, instances of core functions and the instance of the main module stand for.
use Rattle.std.proofs.Common.{◌≡◌, ℕ, suc, ◌+◌, List, [], ◌∷◌, ◌++◌, length, true, false, Option, Some, refl, sym, ap, ◌∙◌, append_assoc}
use Rattle.std.proofs.lemmas.List.{append-nil}
use Rattle.std.specs.Prelude.{if◌then◌else◌, fold, map, slice_get, option_and_then, bytes_eq}
use Rattle.wasm_types.specs.declared.types.ExportKind.{ExportKind}
use Rattle.wasm_types.specs.declared.types.ExportKind.TheVariants as kinds
use Rattle.component_value_types.specs.Combinators.{NamedValue}
use Rattle.component_instances.specs.declared.instances.CoreItem.{CoreItem as CoreIndex}
use Rattle.linked_imports.specs.Passed.component_meaning-Core.{MainModule, CoreItem, of_items, CoreInstance}
use Rattle.linked_imports.specs.Passed.component_meaning-Spaces.{Spaces, joined, core_space, instance_space, core_at, entry_named, core_export, argument_named, inline_entry, after}
use Rattle.linked_imports.proofs.Passed.component_meaning-Staying.{spaces_end}
use Rattle.component_encoding.specs.Given.{Under, named_in, given_as}
use Rattle.component_encoding.specs.Instances.{lowering_of, instance_of, arguments_from, lowered}

-- ---- lowerings

-- with these core functions behind its own
abbrev pub with_functions : Spaces → List (Option CoreItem) → Spaces
with_functions s xs = record s { core_functions = s.core_functions ++ xs }

one_function : (s : Spaces) (x : Option CoreItem) → joined s (core_space kinds.Func x) ≡ with_functions s (x ∷ [])
one_function s x = λ i. record {
  scope = ap (λ (t : Spaces). t.scope) (spaces_end s) i;
  modules = append-nil s.modules i;
  core_instances = append-nil s.core_instances i;
  core_functions = s.core_functions ++ x ∷ [];
  core_tables = append-nil s.core_tables i;
  core_memories = append-nil s.core_memories i;
  core_globals = append-nil s.core_globals i;
}

no_function : (s : Spaces) → s ≡ with_functions s []
no_function s = λ i. record s { core_functions = sym (append-nil s.core_functions) i }

pub lowerings : (main : MainModule) (s : Spaces) (fs : List ℕ) → fold (after main) s (map lowering_of fs) ≡ with_functions s (map (lowered s) fs)
lowerings main s [] = no_function s
lowerings main s (f ∷ fs) =
    ap (λ t. fold (after main) t (map lowering_of fs)) (one_function s (lowered s f))
    ∙ lowerings main (with_functions s (lowered s f ∷ [])) fs
    ∙ ap (λ l. record s { core_functions = l }) (append_assoc s.core_functions (lowered s f ∷ []) (map (lowered s) fs))

-- ---- instances of core functions

abbrev pub with_instances : Spaces → List CoreInstance → Spaces
with_instances s xs = record s { core_instances = s.core_instances ++ xs }

pub one_instance : (s : Spaces) (x : CoreInstance) → joined s (instance_space x) ≡ with_instances s (x ∷ [])
one_instance s x = λ i. record {
  scope = ap (λ (t : Spaces). t.scope) (spaces_end s) i;
  modules = append-nil s.modules i;
  core_instances = s.core_instances ++ x ∷ [];
  core_functions = append-nil s.core_functions i;
  core_tables = append-nil s.core_tables i;
  core_memories = append-nil s.core_memories i;
  core_globals = append-nil s.core_globals i;
}

no_instance : (s : Spaces) → s ≡ with_instances s []
no_instance s = λ i. record s { core_instances = sym (append-nil s.core_instances) i }

abbrev pub made_of : Spaces → Under → CoreInstance
made_of s u = record { source = of_items; exports = map (inline_entry s) u.items }

-- instances change no core item
same_item : (s : Spaces) (xs : List CoreInstance) (kind : ExportKind) (i : ℕ) → core_at kind (with_instances s xs) i ≡ core_at kind s i
same_item s xs kinds.Func i = refl
same_item s xs kinds.Table i = refl
same_item s xs kinds.Memory i = refl
same_item s xs kinds.Global i = refl

same_entries : (s : Spaces) (xs : List CoreInstance) (es : List (NamedValue CoreIndex)) → map (inline_entry (with_instances s xs)) es ≡ map (inline_entry s) es
same_entries s xs [] = refl
same_entries s xs (e ∷ es) = λ i. record { name = e.name; item = same_item s xs e.item.kind e.item.index i } ∷ same_entries s xs es i

same_made : (s : Spaces) (xs : List CoreInstance) (us : List Under) → map (made_of (with_instances s xs)) us ≡ map (made_of s) us
same_made s xs [] = refl
same_made s xs (u ∷ us) = λ i. record { source = of_items; exports = same_entries s xs u.items i } ∷ same_made s xs us i

pub instances : (main : MainModule) (s : Spaces) (us : List Under) → fold (after main) s (map instance_of us) ≡ with_instances s (map (made_of s) us)
instances main s [] = no_instance s
instances main s (u ∷ us) =
    ap (λ t. fold (after main) t (map instance_of us)) (one_instance s (made_of s u))
    ∙ instances main (with_instances s (made_of s u ∷ [])) us
    ∙ ap (λ l. record s { core_instances = l }) (append_assoc s.core_instances (made_of s u ∷ []) (map (made_of (with_instances s (made_of s u ∷ []))) us))
    ∙ ap (λ l. record s { core_instances = s.core_instances ++ made_of s u ∷ l }) (same_made s (made_of s u ∷ []) us)

-- ---- what these have by names

-- the core item that an index names
abbrev pub item_of : Spaces → Option CoreIndex → Option CoreItem
item_of s x = option_and_then (λ (c : CoreIndex). core_at c.kind s c.index) x

entry_of : (s : Spaces) (es : List (NamedValue CoreIndex)) (n : List ℕ) → entry_named n (map (inline_entry s) es) ≡ item_of s (named_in es n)
entry_of s [] n = refl
entry_of s (e ∷ es) n = elim (bytes_eq n e.name) as (λ b. (if b then core_at e.item.kind s e.item.index else entry_named n (map (inline_entry s) es)) ≡ item_of s (if b then Some e.item else named_in es n)) [
  | true ↦ refl
  | false ↦ entry_of s es n
]

here : {X : Type 0} (xs ys : List X) (x : X) → slice_get (xs ++ x ∷ ys) (length xs) ≡ Some x
here [] ys x = refl
here (y ∷ xs) ys x = here xs ys x

-- what is given by a pair of texts is what the instance that is given under the first has by the second
pub argument_is : (s : Spaces) (cs : List CoreInstance) (k : ℕ) (us : List Under) (p n : List ℕ) → k ≡ length cs
    → option_and_then (λ j. core_export (cs ++ map (made_of s) us) j n) (argument_named (arguments_from k us) p) ≡ item_of s (given_as us p n)
argument_is s cs k [] p n at = refl
argument_is s cs k (u ∷ us) p n at = elim (bytes_eq p u.text) as (λ b. option_and_then (λ j. core_export (cs ++ made_of s u ∷ map (made_of s) us) j n) (if b then Some k else argument_named (arguments_from (suc k) us) p) ≡ item_of s (if b then named_in u.items n else given_as us p n)) [
  | true ↦
      ap (λ m. option_and_then (λ (i : CoreInstance). entry_named n i.exports) (slice_get (cs ++ made_of s u ∷ map (made_of s) us) m)) at
      ∙ ap (option_and_then (λ (i : CoreInstance). entry_named n i.exports)) (here cs (map (made_of s) us) (made_of s u))
      ∙ entry_of s u.items n
  | false ↦
      ap (λ l. option_and_then (λ j. core_export l j n) (argument_named (arguments_from (suc k) us) p)) (sym (append_assoc cs (made_of s u ∷ []) (map (made_of s) us)))
      ∙ argument_is s (cs ++ made_of s u ∷ []) (suc k) us p n (ap suc at ∙ sym (one_longer cs (made_of s u)))
]
  where
    one_longer : {X : Type 0} (xs : List X) (x : X) → length (xs ++ x ∷ []) ≡ suc (length xs)
    one_longer [] x = refl
    one_longer (y ∷ xs) x = ap suc (one_longer xs x)
