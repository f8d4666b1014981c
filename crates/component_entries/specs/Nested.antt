-- Components within a component (Component Model Binary, Component Definitions).
use Rattle.std.specs.Prelude.{ℕ, List, [], ◌∷◌, map, Result, Ok, Err, Option, Some, None, Bool, true, false, ◌==◌, if◌then◌else◌, bytes_eq}
use Rattle.std.specs.List.{flat_map}
use Rattle.binary_grammar.specs.declared.fault.Rule.{Rule}
use Rattle.binary_grammar.specs.declared.fault.Rule.TheVariants as rules
use Rattle.binary_grammar.specs.Several.{grown}
use Rattle.binary_grammar.specs.Syntax.{Syntax, unbounded, bounded, ◌◂◌, ◌>>=◌, some_name, some_bytes, gives, refuses, tested, growing, sized, where_known, exactly, begins, seen, steps, bytes, IsTyped}
use Rattle.component_definitions.specs.Passed.component_value_types-declared-scope-Scope.{Scope}
use Rattle.component_definitions.specs.Counting.{inside}
use Rattle.component_entries.specs.declared.entry.EntryKind.{EntryKind}
use Rattle.component_entries.specs.declared.nested.NestedSection.{NestedSection}
use Rattle.component_entries.specs.declared.nested.NestedComponent.{NestedComponent}
use Rattle.component_entries.specs.Runs.{runs}
use Rattle.component_entries.specs.Entries.{EntryValue, entry_value, entry_kind, DefinedValue, with_entry, entry_by, kind_byte, kind_of}

-- `00 61 73 6d`, the version and the layer
abbrev pub header : List ℕ
header = 0 ∷ 0x61 ∷ 0x73 ∷ 0x6d ∷ 0x0d ∷ 0 ∷ 1 ∷ 0 ∷ []

-- ---- sections: aliases, types, imports and exports alone

-- the entries of one kind; or none of a custom section, of which nothing is kept
pub record NestedSectionValue : Type 0 where
  pub kind : Option EntryKind
  pub entries : List EntryValue

abbrev pub nested_section_value : NestedSection → NestedSectionValue
nested_section_value s = record { kind = s.kind; entries = map entry_value s.entries.items }

abbrev pub byte_of : Option EntryKind → ℕ
byte_of None = 0
byte_of (Some k) = kind_byte k

abbrev pub nested_byte : NestedSectionValue → ℕ
nested_byte s = byte_of s.kind

abbrev pub nested_with : DefinedValue → NestedSectionValue → DefinedValue
nested_with there s = grown with_entry there s.entries

pub data NestedForm : Type 0 where
  custom_form : NestedForm
  entries_form : Result EntryKind Rule → NestedForm

unfoldable pub nested_form_of : ℕ → NestedForm
nested_form_of b = if b == 0 then custom_form else entries_form (kind_of b)

abbrev pub nested_behind : NestedForm → Syntax unbounded DefinedValue NestedSectionValue
nested_behind custom_form = do
  name ← (λ _. []) ◂ sized (begins some_name)
  gives (record { kind = None; entries = [] })
nested_behind (entries_form (Ok k)) = do
  es ← (λ s. s.entries) ◂ sized (exactly (growing with_entry (entry_by k)))
  gives (record { kind = Some k; entries = es })
nested_behind (entries_form (Err rule)) = refuses rule

unfoldable pub nested_next : ℕ → Syntax unbounded DefinedValue NestedSectionValue
nested_next b = nested_behind (nested_form_of b)

-- where no definition of a nested component stands yet
abbrev pub nothing_in : Scope → DefinedValue
nothing_in there = record { nested = true; scope = inside there; imports = []; exports = [] }

unfoldable pub nested_sections : Syntax bounded Scope (List NestedSectionValue)
nested_sections = where_known nothing_in (do
  h ← (λ _. header) ◂ tested rules.Header (λ _ xs. bytes_eq xs header) (some_bytes 8)
  steps nested_with nested_byte nested_next)

-- ---- the entries of a nested component, whatever sections they stand in

abbrev pub entries_in : List NestedSectionValue → List EntryValue
entries_in ss = flat_map (λ s. s.entries) ss

abbrev pub entry_byte : EntryValue → ℕ
entry_byte e = kind_byte (entry_kind e)

-- no entry has a section for itself
abbrev pub alone : ℕ → Bool
alone b = false

abbrev pub section_of : List EntryValue → NestedSectionValue
section_of [] = record { kind = None; entries = [] }
section_of (e ∷ es) = record { kind = Some (entry_kind e); entries = e ∷ es }

-- as they are written: neighbours of one kind share a section
abbrev pub sections_of : List EntryValue → List NestedSectionValue
sections_of es = map section_of (runs entry_byte alone es)

-- a whole component of its own, which sees the types around
unfoldable pub nested_component : Syntax bounded Scope (List EntryValue)
nested_component = seen entries_in sections_of nested_sections

-- a section's bytes with its own
abbrev pub section_bytes : NestedSectionValue → List ℕ
section_bytes s = nested_byte s ∷ bytes (nested_next (nested_byte s)) s

abbrev pub IsSection : NestedSectionValue → Type 0
IsSection s = IsTyped (nested_next (nested_byte s)) s

abbrev pub nested_component_value : NestedComponent → List EntryValue
nested_component_value c = map entry_value c.entries.items
