-- Core exports that options name, one by one.
use Rattle.std.proofs.Common.{◌≡◌, ℕ, List, Option, Some, None, sym, ap, subst, ◌∙◌}
use Rattle.std.specs.Prelude.{option_map, option_and_then}
use Rattle.std.specs.Borrow.{Bor}
use Rattle.wasm_types.specs.declared.types.ExportKind.TheVariants as kinds
use Rattle.wasm_types.specs.Entries.{ExportValue}
use Rattle.component_definitions.specs.declared.canonical.CanonicalOption.{CanonicalOption}
use Rattle.component_definitions.specs.declared.canonical.CanonicalOption.TheVariants as canonical
use Rattle.linked_imports.specs.Passed.component_meaning-Spaces.{Spaces}
use Rattle.linked_imports.specs.Passed.link_table-Linking.{Linking}
use Rattle.linked_imports.specs.Passed.link_table-Options.{Options}
use Rattle.linked_imports.specs.Passed.link_table-View.{name_at}
use Rattle.linked_imports.specs.Passed.right_components-Ends.{IsNameOfMemory, IsCoreExport, the_memory, the_realloc, is_there}
use Rattle.component_encoding.specs.Growing.{Grows}
use Rattle.component_encoding.specs.Exports.{IsTaken, AreShared, IsOptionFor}
use Rattle.component_encoding.specs.declared.exports.Taken.{Taken}
use Rattle.component_encoding.specs.declared.exports.Shared.{Shared}
use Rattle.component_encoding.proofs.Staying.{shared_stay}

-- the name at a place that was found
pub found_at : (es : List ExportValue) (place : Option ℕ) (p : ℕ) (found : Option (Bor (List ℕ))) (name : Bor (List ℕ)) → option_map (λ (n : Bor (List ℕ)). n.now) found ≡ option_and_then (name_at es) place → place ≡ Some p → found ≡ Some name → name_at es p ≡ Some name.now
found_at es place p found name is at has = ap (option_and_then (name_at es)) (sym at) ∙ sym is ∙ ap (option_map (λ (n : Bor (List ℕ)). n.now)) has

-- the one that was taken has the name of its place
same_name : (es : List ExportValue) (kind : _) (s : Spaces) (instance place : ℕ) (name : List ℕ) (t : Taken) → name_at es place ≡ Some name → t.place ≡ place → IsTaken es kind s instance t → IsCoreExport kind s instance t.index name
same_name es kind s instance place name t at same h =
    let both : Some h.name ≡ Some name = sym h.there ∙ ap (name_at es) same ∙ at in
    let e : h.name ≡ name = cc in
    subst (IsCoreExport kind s instance t.index) e h.is

pub memory_option : (l : Linking) (s : Spaces) (instance place : ℕ) (name : List ℕ) (o : Options) (t : Taken) → name_at l.main.exports place ≡ Some name → o.memory ≡ Some name → IsNameOfMemory l name name → t.place ≡ place → IsTaken l.main.exports kinds.Memory s instance t
    → IsOptionFor l s instance o o.memory canonical.Memory (Some t.index)
memory_option l s instance place name o t at asked of same h = record {
  so_many = ap is_there (sym asked);
  is = λ i e. (
      let same_index : t.index ≡ i = cc in
      the_memory i name name asked of (subst (λ n. IsCoreExport kinds.Memory s instance n name) same_index (same_name l.main.exports kinds.Memory s instance place name t at same h))
      );
}

pub realloc_option : (l : Linking) (s : Spaces) (instance place : ℕ) (name : List ℕ) (o : Options) (t : Taken) → name_at l.main.exports place ≡ Some name → o.realloc ≡ Some name → t.place ≡ place → IsTaken l.main.exports kinds.Func s instance t
    → IsOptionFor l s instance o o.realloc canonical.Realloc (Some t.index)
realloc_option l s instance place name o t at asked same h = record {
  so_many = ap is_there (sym asked);
  is = λ i e. (
      let same_index : t.index ≡ i = cc in
      the_realloc i name asked (subst (λ n. IsCoreExport kinds.Func s instance n name) same_index (same_name l.main.exports kinds.Func s instance place name t at same h))
      );
}

pub no_option : (l : Linking) (s : Spaces) (instance : ℕ) (o : Options) (asked : Option (List ℕ)) (option : ℕ → CanonicalOption) → asked ≡ None → IsOptionFor l s instance o asked option None
no_option l s instance o asked option none = record { so_many = ap is_there (sym none); is = λ i e. absurd cc }

-- with one that was taken since
pub with_memory : (es : List ExportValue) (s t : Spaces) (instance : ℕ) (x : Shared) (m : Taken) → Grows s t → AreShared es s instance x → IsTaken es kinds.Memory t instance m → AreShared es t instance (record { memory = Some m; realloc = x.realloc })
with_memory es s t instance x m g h is = record {
  memory = λ y e. (let same : m ≡ y = cc in subst (IsTaken es kinds.Memory t instance) same is);
  realloc = (shared_stay es s t instance x g h).realloc;
}

pub with_realloc : (es : List ExportValue) (s t : Spaces) (instance : ℕ) (x : Shared) (m : Taken) → Grows s t → AreShared es s instance x → IsTaken es kinds.Func t instance m → AreShared es t instance (record { memory = x.memory; realloc = Some m })
with_realloc es s t instance x m g h is = record {
  memory = (shared_stay es s t instance x g h).memory;
  realloc = λ y e. (let same : m ≡ y = cc in subst (IsTaken es kinds.Func t instance) same is);
}
