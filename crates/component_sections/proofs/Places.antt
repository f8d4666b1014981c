-- Where definitions stand.
use Rattle.std.proofs.Common.{◌≡◌, ◌+◌, ℕ, List, [], ◌∷◌, ◌++◌, length, map, Ok, refl, ap, ◌∙◌}
use Rattle.std.specs.List.{All, flat_map}
use Rattle.std.proofs.lemmas.List.{map-append}
use Rattle.std.proofs.lemmas.List.Elements.{All-nil, All-head, All-tail, All-append}
use Rattle.binary_grammar.specs.Format.{chunk}
use Rattle.binary_grammar.specs.Cursor.{Cursor}
use Rattle.binary_grammar.specs.Place.{Within}
use Rattle.binary_grammar.specs.Syntax.{meaning}
use Rattle.binary_grammar.proofs.Laws.{chunk_law}
use Rattle.binary_grammar.proofs.Placing.{part_stands, within_on}
use Rattle.component_entries.specs.Entries.{DefinedValue}
use Rattle.component_sections.specs.declared.section.SectionId.{SectionId}
use Rattle.component_sections.specs.declared.section.Definition.{Definition}
use Rattle.component_sections.specs.declared.section.PlacedDefinition.{PlacedDefinition}
use Rattle.component_sections.specs.declared.section.Section.{Section}
use Rattle.component_sections.specs.Component.{definition_value, placed_value, section_value, definitions_in, definition_in, StandsIn}

-- what is read stands where the cursor was
pub definition_stands : (i : SectionId) (there : DefinedValue) (total : List ℕ) (old new : Cursor) (d : Definition) (offset : ℕ) → new.end ≡ old.end → (meaning (definition_in i) there).read old.left ≡ Ok (definition_value d, new.left)
    → offset + length old.left ≡ old.end → Within total old → StandsIn total (record { offset = offset; definition = d })
definition_stands i there total old new d offset same h here w = (i, there, part_stands (definition_in i) there total old new (definition_value d) same h w offset here)

pub behind_header : (total : List ℕ) (old new : Cursor) (xs : List ℕ) → new.end ≡ old.end → (chunk 8).read old.left ≡ Ok (xs, new.left) → Within total old → Within total new
behind_header = within_on (chunk 8) (chunk_law 8)

-- ---- those of sections, one behind the other

abbrev placed_in : Section → List PlacedDefinition
placed_in s = s.definitions.items

pub values_of : (ss : List Section) → map placed_value (flat_map (λ s. s.definitions.items) ss) ≡ definitions_in (map section_value ss)
values_of [] = refl
values_of (s ∷ ss) = map-append placed_value (placed_in s) (flat_map placed_in ss) ∙ ap (λ ds. map placed_value (placed_in s) ++ ds) (values_of ss)

pub all_stand : (total : List ℕ) (ss : List Section) → All (λ s. All (StandsIn total) s.definitions.items) ss → All (StandsIn total) (flat_map (λ s. s.definitions.items) ss)
all_stand total [] h = All-nil (StandsIn total)
all_stand total (s ∷ ss) h =
    let each = λ (t : Section). All (StandsIn total) (placed_in t) in
    All-append (StandsIn total) (placed_in s) (flat_map placed_in ss) (All-head each s ss h) (all_stand total ss (All-tail each s ss h))
