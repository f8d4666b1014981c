-- What stands at places of a source map, with each of these elsewhere.
use Rattle.std.specs.Prelude.{ℕ, ◌+◌, ◌<◌, ◌^◌, All, Any, List, [], ◌∷◌, ◌++◌, map, flat_map, Vec}
use Rattle.std.specs.Vec.{with_items}
use Rattle.std.specs.declared.alloc.Global.{Global}
use Rattle.indexmap.specs.IndexMap.{IndexMap, with_entries, values}
use Rattle.wit_words.specs.declared.source_map.Span.{Span}
use Rattle.wit_types.specs.declared.function.Param.{Param}
use Rattle.wit_types.specs.declared.function.Function.{Function}
use Rattle.wit_types.specs.declared.kind.Field.{Field}
use Rattle.wit_types.specs.declared.kind.Case.{Case}
use Rattle.wit_types.specs.declared.kind.Flag.{Flag}
use Rattle.wit_types.specs.declared.kind.EnumCase.{EnumCase}
use Rattle.wit_types.specs.declared.kind.TypeDefKind.{TypeDefKind}
use Rattle.wit_types.specs.declared.kind.TypeDefKind.TheVariants as kind
use Rattle.wit_types.specs.declared.interface.TypeDef.{TypeDef}
use Rattle.wit_types.specs.declared.interface.Interface.{Interface}
use Rattle.wit_types.specs.declared.world.World.{World}
use Rattle.wit_types.specs.declared.world.WorldInclude.{WorldInclude}
use Rattle.wit_types.specs.declared.world.WorldItem.{WorldItem}
use Rattle.wit_types.specs.declared.world.WorldItem.TheVariants as item
use Rattle.wit_types.specs.declared.«package».UnresolvedPackage.{UnresolvedPackage}

-- ---- where each place goes

-- the values of a vector and of a map, each changed
abbrev pub items_by : {X : Type 0} → (X → X) → Vec X Global → Vec X Global
items_by f v = with_items v (map f v.items)

abbrev pub values_by : {K V S : Type 0} → (V → V) → IndexMap K V S → IndexMap K V S
values_by f m = with_entries m (map (λ e. (e.0, f e.1)) m.entries)

abbrev pub param_by : (Span → Span) → Param → Param
param_by f p = record p { span = f p.span }

abbrev pub function_by : (Span → Span) → Function → Function
function_by f x = record x { params = items_by (param_by f) x.params; span = f x.span }

abbrev pub field_by : (Span → Span) → Field → Field
field_by f x = record x { span = f x.span }

abbrev pub case_by : (Span → Span) → Case → Case
case_by f c = record c { span = f c.span }

abbrev pub flag_by : (Span → Span) → Flag → Flag
flag_by f x = record x { span = f x.span }

abbrev pub enum_case_by : (Span → Span) → EnumCase → EnumCase
enum_case_by f c = record c { span = f c.span }

-- a definition, whose members have places
abbrev pub kind_by : (Span → Span) → TypeDefKind → TypeDefKind
kind_by f (kind.Record r) = kind.Record (record { fields = items_by (field_by f) r.fields })
kind_by f kind.Resource = kind.Resource
kind_by f (kind.Handle h) = kind.Handle h
kind_by f (kind.Flags x) = kind.Flags (record { flags = items_by (flag_by f) x.flags })
kind_by f (kind.Tuple t) = kind.Tuple t
kind_by f (kind.Variant v) = kind.Variant (record { cases = items_by (case_by f) v.cases })
kind_by f (kind.Enum e) = kind.Enum (record { cases = items_by (enum_case_by f) e.cases })
kind_by f (kind.Option r) = kind.Option r
kind_by f (kind.Result r) = kind.Result r
kind_by f (kind.List r) = kind.List r
kind_by f (kind.FixedLengthList r n) = kind.FixedLengthList r n
kind_by f (kind.Future p) = kind.Future p
kind_by f (kind.Stream p) = kind.Stream p
kind_by f (kind.Alias r) = kind.Alias r
kind_by f kind.Unknown = kind.Unknown

abbrev pub type_def_by : (Span → Span) → TypeDef → TypeDef
type_def_by f d = record d { kind = kind_by f d.kind; span = f d.span }

abbrev pub interface_by : (Span → Span) → Interface → Interface
interface_by f i = record i { functions = values_by (function_by f) i.functions; span = f i.span }

abbrev pub include_by : (Span → Span) → WorldInclude → WorldInclude
include_by f w = record w { span = f w.span }

abbrev pub item_by : (Span → Span) → WorldItem → WorldItem
item_by f (item.Interface id stability span) = item.Interface id stability (f span)
item_by f (item.Function x) = item.Function (function_by f x)
item_by f (item.TypeItem id span) = item.TypeItem id (f span)

abbrev pub world_by : (Span → Span) → World → World
world_by f w = record w { imports = values_by (item_by f) w.imports; exports = values_by (item_by f) w.exports; includes = items_by (include_by f) w.includes; span = f w.span }

abbrev pub package_by : (Span → Span) → UnresolvedPackage → UnresolvedPackage
package_by f p = record p {
  name_span = f p.name_span;
  foreign_dep_spans = items_by f p.foreign_dep_spans;
  unknown_type_spans = items_by f p.unknown_type_spans;
  types = map (type_def_by f) p.types;
  interfaces = map (interface_by f) p.interfaces;
  worlds = map (world_by f) p.worlds;
}

-- ---- so many bytes further on

abbrev pub span_at : ℕ → Span → Span
span_at n s = record { start = s.start + n; end = s.end + n }

abbrev pub param_at : ℕ → Param → Param
param_at n = param_by (span_at n)

abbrev pub function_at : ℕ → Function → Function
function_at n = function_by (span_at n)

abbrev pub field_at : ℕ → Field → Field
field_at n = field_by (span_at n)

abbrev pub case_at : ℕ → Case → Case
case_at n = case_by (span_at n)

abbrev pub flag_at : ℕ → Flag → Flag
flag_at n = flag_by (span_at n)

abbrev pub enum_case_at : ℕ → EnumCase → EnumCase
enum_case_at n = enum_case_by (span_at n)

abbrev pub kind_at : ℕ → TypeDefKind → TypeDefKind
kind_at n = kind_by (span_at n)

abbrev pub type_def_at : ℕ → TypeDef → TypeDef
type_def_at n = type_def_by (span_at n)

abbrev pub interface_at : ℕ → Interface → Interface
interface_at n = interface_by (span_at n)

abbrev pub include_at : ℕ → WorldInclude → WorldInclude
include_at n = include_by (span_at n)

abbrev pub item_at : ℕ → WorldItem → WorldItem
item_at n = item_by (span_at n)

abbrev pub world_at : ℕ → World → World
world_at n = world_by (span_at n)

abbrev pub package_at : ℕ → UnresolvedPackage → UnresolvedPackage
package_at n = package_by (span_at n)

-- ---- all places

abbrev pub param_spans : Param → List Span
param_spans p = p.span ∷ []

abbrev pub function_spans : Function → List Span
function_spans x = x.span ∷ flat_map param_spans x.params.items

abbrev pub field_spans : Field → List Span
field_spans x = x.span ∷ []

abbrev pub case_spans : Case → List Span
case_spans c = c.span ∷ []

abbrev pub flag_spans : Flag → List Span
flag_spans x = x.span ∷ []

abbrev pub enum_case_spans : EnumCase → List Span
enum_case_spans c = c.span ∷ []

abbrev pub kind_spans : TypeDefKind → List Span
kind_spans (kind.Record r) = flat_map field_spans r.fields.items
kind_spans kind.Resource = []
kind_spans (kind.Handle h) = []
kind_spans (kind.Flags x) = flat_map flag_spans x.flags.items
kind_spans (kind.Tuple t) = []
kind_spans (kind.Variant v) = flat_map case_spans v.cases.items
kind_spans (kind.Enum e) = flat_map enum_case_spans e.cases.items
kind_spans (kind.Option r) = []
kind_spans (kind.Result r) = []
kind_spans (kind.List r) = []
kind_spans (kind.FixedLengthList r n) = []
kind_spans (kind.Future p) = []
kind_spans (kind.Stream p) = []
kind_spans (kind.Alias r) = []
kind_spans kind.Unknown = []

abbrev pub type_def_spans : TypeDef → List Span
type_def_spans d = d.span ∷ kind_spans d.kind

abbrev pub interface_spans : Interface → List Span
interface_spans i = i.span ∷ flat_map function_spans (values i.functions)

abbrev pub include_spans : WorldInclude → List Span
include_spans w = w.span ∷ []

abbrev pub item_spans : WorldItem → List Span
item_spans (item.Interface id stability span) = span ∷ []
item_spans (item.Function x) = function_spans x
item_spans (item.TypeItem id span) = span ∷ []

abbrev pub world_spans : World → List Span
world_spans w = w.span ∷ (flat_map item_spans (values w.imports) ++ (flat_map item_spans (values w.exports) ++ flat_map include_spans w.includes.items))

abbrev pub package_spans : UnresolvedPackage → List Span
package_spans p =
    p.name_span ∷ (p.foreign_dep_spans.items ++ (p.unknown_type_spans.items ++ (flat_map type_def_spans p.types ++ (flat_map interface_spans p.interfaces ++ flat_map world_spans p.worlds))))

-- ---- whether they fit into 32 bits there

abbrev pub SpanFits : ℕ → Span → Type 0
SpanFits n s = (s.start + n < 2 ^ 32) × (s.end + n < 2 ^ 32)

-- each place of a package does
abbrev pub Fits : ℕ → UnresolvedPackage → Type 0
Fits n p = All (SpanFits n) (package_spans p)

-- one doesn't
abbrev pub Passes : ℕ → UnresolvedPackage → Type 0
Passes n p = Any (λ s. SpanFits n s → ⊥) (package_spans p)
