-- A core function is lifted and exported.
use Rattle.std.proofs.Common.{◌≡◌, ℕ, List, [], ◌∷◌, ◌++◌, length, Option, Some, None, sym, ap, subst, ◌∙◌}
use Rattle.std.proofs.lemmas.List.{append-nil}
use Rattle.component_definitions.specs.declared.canonical.CanonicalOption.{CanonicalOption}
use Rattle.component_definitions.specs.declared.sorts.ComponentSort.TheVariants as components
use Rattle.component_definitions.specs.declared.sorts.Sort.TheVariants as sorts
use Rattle.component_definitions.specs.Canonical.{lift}
use Rattle.component_entries.specs.Entries.{an_export}
use Rattle.component_sections.specs.Component.{DefinitionValue, a_canonical, an_entry}
use Rattle.component_builder.specs.Builder.{index_behind}
use Rattle.type_writing.specs.Passed.type_meaning-Words.{BinaryTree}
use Rattle.type_writing.specs.Passed.type_meaning-Items.{Item, from_lift, a_function, or_nothing, item_at, type_at, is_function}
use Rattle.type_writing.specs.Passed.type_meaning-Scope.{renamed}
use Rattle.linked_imports.specs.Passed.component_meaning-Core.{MainModule}
use Rattle.linked_imports.specs.Passed.component_meaning-Spaces.{Spaces, after, meaning, lifting}
use Rattle.wit_arena.proofs.Lists.{get_last}
use Rattle.component_encoding.specs.Exports.{AddsExport, lifted}
use Rattle.component_encoding.proofs.Counts.{Lengths, counts}
use Rattle.component_encoding.proofs.Growth.{next}

abbrev pub lifting_of : ℕ → List CanonicalOption → ℕ → DefinitionValue
lifting_of core options ty = a_canonical (lift core options ty)

abbrev pub exporting : List ℕ → ℕ → DefinitionValue
exporting name i = an_entry (an_export (record { name = name; sort = sorts.Component components.Function; index = i; ascribed = None }))

twice : {A : Type 0} (xs : List A) → (xs ++ []) ++ [] ≡ xs
twice xs = append-nil (xs ++ []) ∙ append-nil xs

-- what is exported is what was lifted last
exported_is : (fs : List Item) (i : ℕ) (name : List ℕ) (core : ℕ) (options : List CanonicalOption) (found : Option BinaryTree) (tree : BinaryTree) → i ≡ length fs → found ≡ Some tree
    → renamed name (item_at (fs ++ lifting core options found ∷ []) i) ≡ a_function (from_lift core options) tree
exported_is fs i name core options found tree at is =
    ap (λ n. renamed name (item_at (fs ++ lifting core options found ∷ []) n)) at
    ∙ ap (λ o. renamed name (or_nothing o)) (get_last fs (lifting core options found))
    ∙ ap (λ o. renamed name (lifting core options o)) is

adds_export : (main : MainModule) (s : Spaces) (name : List ℕ) (core : ℕ) (options : List CanonicalOption) (ty i : ℕ) (tree : BinaryTree) → i ≡ length s.scope.functions → type_at is_function s.scope.types ty ≡ Some tree
    → AddsExport s (after main (after main s (lifting_of core options ty)) (exporting name i)) (lifted name core options tree)
adds_export main s name core options ty i tree at is = record {
  types = twice s.scope.types;
  imports = twice s.scope.imports;
  exports = (λ k. append-nil s.scope.exports k ++ record { name = name; item = exported_is s.scope.functions i name core options (type_at is_function s.scope.types ty) tree at is k } ∷ []);
  modules = twice s.modules;
  instances = twice s.core_instances;
}

pub lifts : (main : MainModule) (ds es new : List DefinitionValue) (name : List ℕ) (core : ℕ) (options : List CanonicalOption) (ty i : ℕ) (tree : BinaryTree)
    → es ≡ ds ++ lifting_of core options ty ∷ [] → i ≡ index_behind ds (lifting_of core options ty) → new ≡ es ++ exporting name i ∷ [] → type_at is_function (meaning main ds).scope.types ty ≡ Some tree
    → AddsExport (meaning main ds) (meaning main new) (lifted name core options tree)
lifts main ds es new name core options ty i tree first at last is =
    let same : meaning main new ≡ after main (after main (meaning main ds) (lifting_of core options ty)) (exporting name i) =
    ap (meaning main) last ∙ next main es (exporting name i) ∙ ap (λ s. after main s (exporting name i)) (ap (meaning main) first ∙ next main ds (lifting_of core options ty)) in
    subst (λ s. AddsExport (meaning main ds) s (lifted name core options tree)) (sym same)
    (adds_export main (meaning main ds) name core options ty i tree (at ∙ ap (λ (l : Lengths). l.functions) (counts main ds)) is)
