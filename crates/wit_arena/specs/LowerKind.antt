-- One way to bring a definition into an arena (WIT, Items).
use Rattle.std.specs.Prelude.{◌≡◌, ℕ, List, [], Option, Some, map, string_bytes}
use Rattle.wit_types.specs.Passed.wit_words-declared-source_map-Span.{Span}
use Rattle.wit_types.specs.declared.kind.«Type».{«Type» as Ref}
use Rattle.wit_types.specs.declared.kind.TypeDefKind.{TypeDefKind}
use Rattle.wit_types.specs.declared.kind.TypeDefKind.TheVariants as kind
use Rattle.wit_types.specs.declared.kind.Record.{Record}
use Rattle.wit_types.specs.declared.kind.Field.{Field}
use Rattle.wit_types.specs.declared.kind.Flags.{Flags}
use Rattle.wit_types.specs.declared.kind.Flag.{Flag}
use Rattle.wit_types.specs.declared.kind.Variant.{Variant}
use Rattle.wit_types.specs.declared.kind.Case.{Case}
use Rattle.wit_types.specs.declared.kind.Enum.{Enum}
use Rattle.wit_types.specs.declared.kind.EnumCase.{EnumCase}
use Rattle.wit_types.specs.declared.interface.TypeDef.{TypeDef}
use Rattle.wit_type_names.specs.Passed.wit_productions-TypeTree.{TypeTree}
use Rattle.wit_type_names.specs.Passed.wit_items-ItemTree as item
use Rattle.wit_type_names.specs.Passed.wit_items-ItemTree.{FieldTree, LabelTree, CaseTree, TypeDefKindTree, GatedTree, ResourceFuncTree}
use Rattle.wit_type_names.specs.TypeNames.{field_parts, case_parts}
use Rattle.wit_arena.specs.Docs.{said, contents_of}
use Rattle.wit_arena.specs.Table.{Entries}
use Rattle.wit_arena.specs.Lower.{Lowers, LowersParts}

-- a name in a definition, what is said of it, and where it stands
pub record Label : Type 0 where
  pub docs : Option (List ℕ)
  pub name : List ℕ
  pub span : Span

-- ---- as it is written

abbrev pub written_field : FieldTree → Label
written_field f = record { docs = said f.docs; name = f.name.text; span = f.name.span }

abbrev pub written_label : LabelTree → Label
written_label l = record { docs = said l.docs; name = l.name.text; span = l.name.span }

abbrev pub written_case : CaseTree → Label
written_case c = record { docs = said c.docs; name = c.name.text; span = c.name.span }

-- ---- in the arena

abbrev pub field_label : Field → Label
field_label f = record { docs = contents_of f.docs; name = string_bytes f.name; span = f.span }

abbrev pub flag_label : Flag → Label
flag_label f = record { docs = contents_of f.docs; name = string_bytes f.name; span = f.span }

abbrev pub enum_case_label : EnumCase → Label
enum_case_label c = record { docs = contents_of c.docs; name = string_bytes c.name; span = c.span }

abbrev pub case_label : Case → Label
case_label c = record { docs = contents_of c.docs; name = string_bytes c.name; span = c.span }

-- ---- all of them

-- the labels that a definition is written with
abbrev pub written_labels : TypeDefKindTree → List Label
written_labels (item.alias e) = []
written_labels (item.fields fs) = map written_field fs
written_labels (item.flags ls) = map written_label ls
written_labels (item.labels ls) = map written_label ls
written_labels (item.cases cs) = map written_case cs
written_labels (item.resource fs) = []

-- and those that a type has
abbrev pub labels_of : TypeDefKind → List Label
labels_of (kind.Record r) = map field_label r.fields.items
labels_of (kind.Flags f) = map flag_label f.flags.items
labels_of (kind.Enum e) = map enum_case_label e.cases.items
labels_of (kind.Variant v) = map case_label v.cases.items
labels_of _ = []

-- From an arena a definition gives an arena and what it is there, one rule for each form: its types are brought in from left to right, and
-- its names stay with what is said of them. The functions of a resource stand beside it.
pub data LowersKind (table : Entries) (a : List TypeDef) : TypeDefKindTree → List TypeDef → TypeDefKind → Type 0 where
  lowers_alias : (b : List TypeDef) (e : TypeTree) (r : Ref) → Lowers table a e b r → LowersKind table a (item.alias e) b (kind.Alias r)
  lowers_record : (b : List TypeDef) (fs : List FieldTree) (r : Record) → LowersParts table a (field_parts fs) b (map (λ f. Some f.ty) r.fields.items) → map field_label r.fields.items ≡ map written_field fs
      → LowersKind table a (item.fields fs) b (kind.Record r)
  lowers_flags : (ls : List LabelTree) (f : Flags) → map flag_label f.flags.items ≡ map written_label ls → LowersKind table a (item.flags ls) a (kind.Flags f)
  lowers_enum : (ls : List LabelTree) (e : Enum) → map enum_case_label e.cases.items ≡ map written_label ls → LowersKind table a (item.labels ls) a (kind.Enum e)
  lowers_variant : (b : List TypeDef) (cs : List CaseTree) (v : Variant) → LowersParts table a (case_parts cs) b (map (λ c. c.ty) v.cases.items) → map case_label v.cases.items ≡ map written_case cs
      → LowersKind table a (item.cases cs) b (kind.Variant v)
  lowers_resource : (fs : List (GatedTree ResourceFuncTree)) → LowersKind table a (item.resource fs) a kind.Resource
