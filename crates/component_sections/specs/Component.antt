-- Components as bytes (Component Model Binary, Component Definitions).
use Rattle.std.specs.Prelude.{ℕ, List, [], ◌∷◌, map, Result, Ok, Err, Bool, ◌==◌, ◌||◌, if◌then◌else◌, bytes_eq}
use Rattle.std.specs.List.{flat_map}
use Rattle.binary_grammar.specs.declared.fault.Fault.{Fault}
use Rattle.binary_grammar.specs.declared.fault.ReadError.{ReadError}
use Rattle.binary_grammar.specs.declared.fault.ReadError.TheVariants as errors
use Rattle.binary_grammar.specs.declared.fault.Rule.{Rule}
use Rattle.binary_grammar.specs.declared.fault.Rule.TheVariants as rules
use Rattle.binary_grammar.specs.Place.{StandsAt}
use Rattle.binary_grammar.specs.Several.{grown}
use Rattle.binary_grammar.specs.Syntax.{Syntax, unbounded, bounded, ◌◂◌, ◌>>=◌, some_name, some_bytes, gives, refuses, tested, growing, sized, where_known, exactly, begins, everything, seen, steps, meaning, bytes, IsTyped, Meets, EachWhere, number}
use Rattle.component_entries.specs.Passed.component_definitions-declared-sorts-ComponentSort-TheVariants as components
use Rattle.component_entries.specs.Passed.component_definitions-declared-sorts-Sort-TheVariants as sorts
use Rattle.component_entries.specs.Passed.component_definitions-declared-counting-IndexSpace.{IndexSpace}
use Rattle.component_entries.specs.Passed.component_definitions-declared-counting-IndexSpace-TheVariants as spaces
use Rattle.component_entries.specs.Passed.component_definitions-Canonical.{CanonicalValue, canonical_value, canonical_sort, canonical, resource_new}
use Rattle.component_entries.specs.Passed.component_definitions-Counting.{with_one}
use Rattle.component_entries.specs.Passed.component_definitions-Aliases.{outer}
use Rattle.component_entries.specs.Passed.component_instances-Instances.{CoreInstanceValue, InstanceValue, core_instance_value, instance_value, core_instance, instance, core_inline, inline}
use Rattle.component_entries.specs.declared.entry.EntryKind.{EntryKind}
use Rattle.component_sections.specs.declared.section.SectionId.{SectionId}
use Rattle.component_sections.specs.declared.section.SectionId.TheVariants as ids
use Rattle.component_sections.specs.declared.section.Definition.{Definition}
use Rattle.component_sections.specs.declared.section.Definition.TheVariants as code
use Rattle.component_sections.specs.declared.section.PlacedDefinition.{PlacedDefinition}
use Rattle.component_sections.specs.declared.section.Section.{Section}
use Rattle.component_entries.specs.Runs.{runs, front}
use Rattle.component_entries.specs.Entries.{EntryValue, entry_value, entry_sort, entry_kind, an_alias, DefinedValue, nothing, imports_with, exports_with, entry_by, kind_byte, kind_of}
use Rattle.component_entries.specs.Nested.{header, nested_component, nested_component_value}

-- ---- definitions

pub data DefinitionValue : Type 0 where
  a_core_module : List ℕ → DefinitionValue
  a_core_instance : CoreInstanceValue → DefinitionValue
  a_component : List EntryValue → DefinitionValue
  an_instance : InstanceValue → DefinitionValue
  a_canonical : CanonicalValue → DefinitionValue
  an_entry : EntryValue → DefinitionValue

abbrev pub definition_value : Definition → DefinitionValue
definition_value (code.CoreModule bytes) = a_core_module bytes.now
definition_value (code.CoreInstance i) = a_core_instance (core_instance_value i)
definition_value (code.Component c) = a_component (nested_component_value c)
definition_value (code.Instance i) = an_instance (instance_value i)
definition_value (code.Canonical c) = a_canonical (canonical_value c)
definition_value (code.Entry e) = an_entry (entry_value e)

abbrev pub placed_value : PlacedDefinition → DefinitionValue
placed_value p = definition_value p.definition

-- each takes the next index of one index space (Explainer, Index Spaces)
abbrev pub space_of : DefinitionValue → IndexSpace
space_of (a_core_module bytes) = spaces.CoreModules
space_of (a_core_instance i) = spaces.CoreInstances
space_of (a_component c) = spaces.Components
space_of (an_instance i) = spaces.Of (sorts.Component components.Instance)
space_of (a_canonical c) = spaces.Of (canonical_sort c)
space_of (an_entry e) = spaces.Of (entry_sort e)

-- its parts, and any value where it has another part
abbrev pub module_in : DefinitionValue → List ℕ
module_in (a_core_module bytes) = bytes
module_in _ = []

abbrev pub core_instance_in : DefinitionValue → CoreInstanceValue
core_instance_in (a_core_instance i) = i
core_instance_in _ = core_inline []

abbrev pub component_in : DefinitionValue → List EntryValue
component_in (a_component c) = c
component_in _ = []

abbrev pub instance_in : DefinitionValue → InstanceValue
instance_in (an_instance i) = i
instance_in _ = inline []

abbrev pub canonical_in : DefinitionValue → CanonicalValue
canonical_in (a_canonical c) = c
canonical_in _ = resource_new 0

abbrev pub entry_in : DefinitionValue → EntryValue
entry_in (an_entry e) = e
entry_in _ = an_alias (outer 0 0)

-- ---- what is known behind a definition

abbrev pub imports_behind : List (List ℕ) → DefinitionValue → List (List ℕ)
imports_behind names (an_entry e) = imports_with names e
imports_behind names _ = names

abbrev pub exports_behind : List (List ℕ) → DefinitionValue → List (List ℕ)
exports_behind names (an_entry e) = exports_with names e
exports_behind names _ = names

abbrev pub with_definition : DefinedValue → DefinitionValue → DefinedValue
with_definition there d = record { nested = there.nested; scope = with_one there.scope (space_of d); imports = imports_behind there.imports d; exports = exports_behind there.exports d }

-- ---- sections

abbrev pub section_byte : SectionId → ℕ
section_byte ids.Custom = 0
section_byte ids.CoreModule = 1
section_byte ids.CoreInstance = 2
section_byte ids.CoreType = 3
section_byte ids.Component = 4
section_byte ids.Instance = 5
section_byte ids.Canonical = 8
section_byte (ids.Entry k) = kind_byte k

abbrev pub of_entries : Result EntryKind Rule → Result SectionId Rule
of_entries (Ok k) = Ok (ids.Entry k)
of_entries (Err rule) = Err rule

unfoldable pub section_id_of : ℕ → Result SectionId Rule
section_id_of b =
    if b == 0 then Ok ids.Custom else
    if b == 1 then Ok ids.CoreModule else
    if b == 2 then Ok ids.CoreInstance else
    if b == 3 then Ok ids.CoreType else
    if b == 4 then Ok ids.Component else
    if b == 5 then Ok ids.Instance else
    if b == 8 then Ok ids.Canonical else of_entries (kind_of b)

-- the section that a definition stands in
abbrev pub section_id : DefinitionValue → SectionId
section_id (a_core_module bytes) = ids.CoreModule
section_id (a_core_instance i) = ids.CoreInstance
section_id (a_component c) = ids.Component
section_id (an_instance i) = ids.Instance
section_id (a_canonical c) = ids.Canonical
section_id (an_entry e) = ids.Entry (entry_kind e)

-- a definition as it stands in a section: core modules and components behind their size
abbrev pub definition_in : SectionId → Syntax unbounded DefinedValue DefinitionValue
definition_in ids.Custom = refuses rules.Tag
definition_in ids.CoreModule = do
  xs ← module_in ◂ sized everything
  gives (a_core_module xs)
definition_in ids.CoreInstance = do
  i ← core_instance_in ◂ where_known (λ k. k.scope) core_instance
  gives (a_core_instance i)
definition_in ids.CoreType = refuses rules.Tag
definition_in ids.Component = do
  c ← component_in ◂ where_known (λ k. k.scope) (sized nested_component)
  gives (a_component c)
definition_in ids.Instance = do
  i ← instance_in ◂ where_known (λ k. k.scope) instance
  gives (an_instance i)
definition_in ids.Canonical = do
  c ← canonical_in ◂ where_known (λ k. k.scope) canonical
  gives (a_canonical c)
definition_in (ids.Entry k) = do
  e ← entry_in ◂ entry_by k
  gives (an_entry e)

-- a definition in a section of this byte
abbrev pub definition_behind : Result SectionId Rule → Syntax unbounded DefinedValue DefinitionValue
definition_behind (Ok i) = definition_in i
definition_behind (Err rule) = refuses rule

-- bytes of the definition, as it stands in some section, begin at its offset
abbrev pub StandsIn : List ℕ → PlacedDefinition → Type 0
StandsIn total p = (i : SectionId) × (there : DefinedValue) × StandsAt (meaning (definition_in i) there).form total p.offset (placed_value p)

-- the definitions of a section; of a custom one nothing is kept
pub record SectionValue : Type 0 where
  pub id : SectionId
  pub definitions : List DefinitionValue

abbrev pub section_value : Section → SectionValue
section_value s = record { id = s.id; definitions = map placed_value s.definitions.items }

abbrev pub byte_of : SectionValue → ℕ
byte_of s = section_byte s.id

abbrev pub section_with : DefinedValue → SectionValue → DefinedValue
section_with there s = grown with_definition there s.definitions

-- what a section holds: a name and anything, no core type, one core module or component, or a vector
pub data SectionForm : Type 0 where
  a_name : SectionForm
  no_types : SectionForm
  one : SectionForm
  a_vector : SectionForm

abbrev pub form_of : SectionId → SectionForm
form_of ids.Custom = a_name
form_of ids.CoreType = no_types
form_of ids.CoreModule = one
form_of ids.Component = one
form_of _ = a_vector

abbrev pub first_of : List DefinitionValue → DefinitionValue
first_of [] = a_core_module []
first_of (d ∷ ds) = d

abbrev pub first_in : SectionValue → DefinitionValue
first_in s = first_of s.definitions

abbrev pub section_by : SectionForm → SectionId → Syntax unbounded DefinedValue SectionValue
section_by a_name i = do
  name ← (λ _. []) ◂ sized (begins some_name)
  gives (record { id = i; definitions = [] })
section_by no_types i = do
  n ← (λ _. 0) ◂ sized (exactly (tested rules.Unsupported (λ _ n. n == 0) number))
  gives (record { id = i; definitions = [] })
section_by one i = do
  d ← first_in ◂ definition_in i
  gives (record { id = i; definitions = d ∷ [] })
section_by a_vector i = do
  ds ← (λ s. s.definitions) ◂ sized (exactly (growing with_definition (definition_in i)))
  gives (record { id = i; definitions = ds })

-- what stands behind a section's byte
abbrev pub section_behind : Result SectionId Rule → Syntax unbounded DefinedValue SectionValue
section_behind (Ok i) = section_by (form_of i) i
section_behind (Err rule) = refuses rule

unfoldable pub section_next : ℕ → Syntax unbounded DefinedValue SectionValue
section_next b = section_behind (section_id_of b)

unfoldable pub whole_sections : Syntax bounded DefinedValue (List SectionValue)
whole_sections = do
  h ← (λ _. header) ◂ tested rules.Header (λ _ xs. bytes_eq xs header) (some_bytes 8)
  steps section_with byte_of section_next

-- ---- the definitions of a component, whatever sections they stand in

abbrev pub definitions_in : List SectionValue → List DefinitionValue
definitions_in ss = flat_map (λ s. s.definitions) ss

abbrev pub definition_byte : DefinitionValue → ℕ
definition_byte d = section_byte (section_id d)

-- core modules and components have a section each
abbrev pub alone : ℕ → Bool
alone b = b == 1 || b == 4

abbrev pub section_of : List DefinitionValue → SectionValue
section_of [] = record { id = ids.Custom; definitions = [] }
section_of (d ∷ ds) = record { id = section_id d; definitions = d ∷ ds }

-- as they are written: other neighbours of one section share it
abbrev pub sections_of : List DefinitionValue → List SectionValue
sections_of ds = map section_of (runs definition_byte alone ds)

-- those of the first section
abbrev pub first_section : List DefinitionValue → List DefinitionValue
first_section ds = front definition_byte alone ds

-- a section's bytes with its own
abbrev pub section_bytes : SectionValue → List ℕ
section_bytes s = byte_of s ∷ bytes (section_next (byte_of s)) s

abbrev pub IsSection : SectionValue → Type 0
IsSection s = IsTyped (section_next (byte_of s)) s

unfoldable pub component : Syntax bounded DefinedValue (List DefinitionValue)
component = seen definitions_in sections_of whole_sections

-- the bytes are a component of these definitions
abbrev pub IsComponent : List ℕ → List DefinitionValue → Type 0
IsComponent bytes ds = (meaning component nothing).form bytes ds

-- the parts of a component stand in the bytes up to where they break this rule
abbrev pub BreaksComponent : List ℕ → Fault → Type 0
BreaksComponent bytes e = (meaning component nothing).breaks bytes e

-- why bytes aren't read: want of memory, or the parts of a component stand in them up to where they break this rule
abbrev pub IsComponentFault : List ℕ → ReadError → Type 0
IsComponentFault bytes errors.Memory = Unit {0}
IsComponentFault bytes (errors.Malformed f) = BreaksComponent bytes f

-- the definition may stand there: it is of its section's grammar, its indices speak of what is there, and its names are new
abbrev pub Follows : DefinedValue → DefinitionValue → Type 0
Follows there d = Meets (definition_in (section_id d)) there d

-- each may stand behind those before it
abbrev pub Follow : DefinedValue → List DefinitionValue → Type 0
Follow there ds = EachWhere Follows with_definition there ds
