-- All sections of a component, written.
use Rattle.std.proofs.Common.{◌≡◌, ℕ, ◌≤◌, List, [], ◌++◌, drop, length, ap, sym, subst, ◌∙◌}
use Rattle.std.specs.List.{flat_map, All}
use Rattle.std.proofs.lemmas.List.{append-nil, drop_all}
use Rattle.std.proofs.lemmas.List.Elements.{All-nil}
use Rattle.binary_grammar.specs.Syntax.{bytes, IsTyped}
use Rattle.component_sections.specs.Passed.component_entries-Nested.{header}
use Rattle.component_sections.specs.Component.{DefinitionValue, component, whole_sections, sections_of, section_bytes, IsSection}
use Rattle.component_sections.proofs.Passed.component_entries-Neighbours.{Left}

module _ (ds : List DefinitionValue) (out : List ℕ) (at : ℕ) (so_far : Left section_bytes IsSection (sections_of ds) (sections_of (drop at ds)) header out) where
  pub all_written : length ds ≤ at → out ≡ bytes component ds
  unfolding component whole_sections
  all_written end = sym (append-nil out) ∙ ap (λ es. out ++ flat_map section_bytes (sections_of es)) (sym (drop_all at ds end)) ∙ so_far.bytes

  pub all_typed : length ds ≤ at → IsTyped component ds
  unfolding component whole_sections
  all_typed end = (tt, so_far.typed (subst (λ es. All IsSection (sections_of es)) (sym (drop_all at ds end)) (All-nil IsSection)))

pub typed_sections : (ds : List DefinitionValue) → IsTyped component ds → All IsSection (sections_of ds)
unfolding component whole_sections
typed_sections ds h = h.1
