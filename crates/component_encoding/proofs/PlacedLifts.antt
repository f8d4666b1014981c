-- A lift with its export may stand where it does.
use Rattle.std.proofs.Common.{◌≡◌, ◌<◌, ℕ, suc, List, [], ◌∷◌, ◌++◌, length, true, Option, Some, None, refl, sym, ap, ◌∙◌, arith, zero}
use Rattle.std.specs.Prelude.{slice_get}
use Rattle.std.specs.List.{AllByRecursion as Each}
use Rattle.distinct_names.specs.Names.{is_new, with_name}
use Rattle.wasm_types.specs.declared.types.ExportKind.TheVariants as kinds
use Rattle.component_value_types.specs.declared.scope.Scope.{Scope as Counted}
use Rattle.component_definitions.specs.declared.canonical.CanonicalOption.{CanonicalOption}
use Rattle.component_definitions.specs.declared.canonical.CanonicalOption.TheVariants as options
use Rattle.component_definitions.specs.declared.sorts.ComponentSort.TheVariants as components
use Rattle.component_definitions.specs.declared.sorts.Sort.TheVariants as sorts
use Rattle.component_definitions.specs.Canonical.{are_single}
use Rattle.component_entries.specs.Entries.{DefinedValue, nothing}
use Rattle.component_sections.specs.Component.{DefinitionValue, with_definition}
use Rattle.component_builder.specs.Builder.{index_behind}
use Rattle.canonical_options.specs.Options.{encoding_option}
use Rattle.link_lines.specs.declared.encoding.StringEncoding.{StringEncoding}
use Rattle.link_lines.specs.declared.encoding.StringEncoding.TheVariants as encodings
use Rattle.type_writing.specs.Passed.type_meaning-Words.{BinaryTree}
use Rattle.type_writing.specs.Passed.type_meaning-Items.{Item, or_nothing, type_if, type_at, is_function}
use Rattle.linked_imports.specs.Passed.component_meaning-Core.{MainModule, CoreItem}
use Rattle.linked_imports.specs.Passed.component_meaning-Spaces.{meaning, core_at}
use Rattle.linked_imports.specs.Passed.link_table-Linking.{Linking}
use Rattle.linked_imports.specs.Passed.link_table-Options.{Options}
use Rattle.linked_imports.specs.Passed.right_components-Ends.{IsOptionOf, the_memory, the_realloc, the_encoding, AreOptionsOf}
use Rattle.component_encoding.specs.Placing.{known_behind, names_exported, StayPlacedWith}
use Rattle.component_encoding.proofs.Counts.{Lengths}
use Rattle.component_encoding.proofs.Behind.{scope_from, known_counts, function_below, memory_below, placed_with, known_with, names_with}
use Rattle.component_encoding.proofs.Following.{IsOptionThere, lift_follows, export_follows}
use Rattle.component_encoding.proofs.Lifted.{lifting_of, exporting}

-- ---- types

there_below : (types : List Item) (i : ℕ) (found : Option Item) → slice_get types i ≡ found → (tree : BinaryTree) → type_if is_function (or_nothing found) ≡ Some tree → i < length types
there_below types i None e tree h = absurd cc
there_below [] i (Some x) e tree h = absurd cc
there_below (y ∷ ys) zero (Some x) e tree h = omega arith
there_below (y ∷ ys) (suc i) (Some x) e tree h = (let less = there_below ys i (Some x) e tree h in omega (arith, less))

module _ (main : MainModule) (ds : List DefinitionValue) where
  type_below : (i : ℕ) (tree : BinaryTree) → type_at is_function (meaning main ds).scope.types i ≡ Some tree → i < (known_behind ds).scope.types
  type_below i tree at =
      let below = there_below (meaning main ds).scope.types i (slice_get (meaning main ds).scope.types i) refl tree at in
      let same = ap (λ (l : Lengths). l.types) (known_counts main ds) in
      omega (arith, below, same)

  -- ---- options

  encoding_there : (e : StringEncoding) → IsOptionThere (known_behind ds).scope (encoding_option e)
  encoding_there encodings.UTF8 = tt
  encoding_there encodings.UTF16 = tt
  encoding_there encodings.CompactUTF16 = tt

  option_there : (l : Linking) (at : ℕ) (o : Options) (x : CanonicalOption) → IsOptionOf l (meaning main ds) at o x → IsOptionThere (known_behind ds).scope x
  option_there l at o x (the_memory i of name asked named is) = memory_below main ds i is.0 is.1
  option_there l at o x (the_realloc i name asked is) = function_below main ds i is.0 is.1
  option_there l at o x (the_encoding e asked) = encoding_there e

  options_there : (l : Linking) (at : ℕ) (o : Options) (os : List CanonicalOption) → Each (IsOptionOf l (meaning main ds) at o) os → Each (IsOptionThere (known_behind ds).scope) os
  options_there l at o [] h = tt
  options_there l at o (x ∷ xs) h = (option_there l at o x h.0, options_there l at o xs h.1)

  -- ---- both

  pub lift_placed : (l : Linking) (o : Options) (mid new : List DefinitionValue) (name : List ℕ) (core ty index at : ℕ) (os : List CanonicalOption) (tree : BinaryTree) (item : CoreItem)
      → mid ≡ ds ++ lifting_of core os ty ∷ [] → index ≡ index_behind ds (lifting_of core os ty) → new ≡ mid ++ exporting name index ∷ []
      → type_at is_function (meaning main ds).scope.types ty ≡ Some tree → core_at kinds.Func (meaning main ds) core ≡ Some item → AreOptionsOf l (meaning main ds) at o os → are_single os ≡ true → StayPlacedWith ds new name
  lift_placed l o mid new name core ty index at os tree item lifted is_index exported typed there are single =
      let known : known_behind mid ≡ with_definition (known_behind ds) (lifting_of core os ty) = known_with ds mid (lifting_of core os ty) lifted in
      let names : names_exported mid ≡ names_exported ds = ap (λ (k : DefinedValue). k.exports) known in
      let count : (known_behind mid).scope.functions ≡ suc (known_behind ds).scope.functions = ap (λ (k : DefinedValue). k.scope.functions) known in
      let same : (known_behind ds).scope.functions ≡ index = ap (λ (s : Counted). s.functions) (scope_from nothing ds) ∙ sym is_index in
      record {
        placed = λ fresh h.
            let first = placed_with ds mid (lifting_of core os ty) lifted (lift_follows (known_behind ds) core ty os (function_below main ds core item there) (type_below ty tree typed) (options_there l at o os are.each) single) h in
            placed_with mid new (exporting name index) exported (export_follows (known_behind mid) name index (ap (λ ns. is_new ns name) names ∙ fresh) (omega (arith, count, same))) first;
        names = names_with mid new (exporting name index) exported ∙ ap (λ ns. with_name ns name) names;
      }
