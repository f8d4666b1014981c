-- What the parts of a graph say: texts by their bytes, lists by their items, and all else by its id (WIT, Packages, Items, Types).
use Rattle.std.specs.Prelude.{ℕ, List, Option, String, map, option_map, string_bytes}
use Rattle.std.specs.declared.alloc.Global.{Global}
use Rattle.semver.specs.declared.Version.{Version}
use Rattle.semver.specs.Identifiers.{parts_of}
use Rattle.semver.specs.Parse.{Parts}
use Rattle.wit_words.specs.declared.source_map.Span.{Span}
use Rattle.wit_types.specs.declared.docs.Docs.{Docs}
use Rattle.wit_types.specs.declared.stability.Stability.{Stability}
use Rattle.wit_types.specs.declared.stability.Stability.TheVariants as stability
use Rattle.wit_types.specs.declared.kind.«Type».{«Type» as Ref}
use Rattle.wit_types.specs.declared.kind.Handle.{Handle}
use Rattle.wit_types.specs.declared.kind.Field.{Field}
use Rattle.wit_types.specs.declared.kind.Case.{Case}
use Rattle.wit_types.specs.declared.kind.Flag.{Flag}
use Rattle.wit_types.specs.declared.kind.EnumCase.{EnumCase}
use Rattle.wit_types.specs.declared.kind.TypeDefKind.{TypeDefKind}
use Rattle.wit_types.specs.declared.kind.TypeDefKind.TheVariants as kind
use Rattle.wit_types.specs.declared.interface.Interface.{Interface}
use Rattle.wit_types.specs.declared.interface.TypeDef.{TypeDef}
use Rattle.wit_types.specs.declared.interface.TypeOwner.{TypeOwner}
use Rattle.wit_types.specs.declared.function.Param.{Param}
use Rattle.wit_types.specs.declared.function.Function.{Function}
use Rattle.wit_types.specs.declared.function.FunctionKind.{FunctionKind}
use Rattle.wit_types.specs.declared.world.World.{World}
use Rattle.wit_types.specs.declared.world.WorldItem.{WorldItem}
use Rattle.wit_types.specs.declared.world.WorldItem.TheVariants as item
use Rattle.wit_types.specs.declared.world_key.WorldKey.{WorldKey}
use Rattle.wit_types.specs.WorldKey.{Known, known}
use Rattle.wit_types.specs.declared.«package».Package.{Package}

-- ---- texts

abbrev pub Text : Type 0
Text = List ℕ

abbrev pub text_said : Option (String Global) → Option Text
text_said x = option_map string_bytes x

abbrev pub docs_said : Docs → Option Text
docs_said d = text_said d.contents

abbrev pub version_said : Option Version → Option Parts
version_said v = option_map parts_of v

pub data SaidStability : Type 0 where
  no_gate : SaidStability
  unstable : Text → Option Parts → SaidStability
  stable : Parts → Option Parts → SaidStability

abbrev pub stability_said : Stability → SaidStability
stability_said stability.Unknown = no_gate
stability_said (stability.Unstable feature deprecated) = unstable (string_bytes feature) (version_said deprecated)
stability_said (stability.Stable since deprecated) = stable (parts_of since) (version_said deprecated)

-- a table of names
abbrev pub names_said : List (String Global × ℕ) → List (Text × ℕ)
names_said entries = map (λ (e : String Global × ℕ). (string_bytes e.0, e.1)) entries

-- ---- types

-- a label with what stands under it: the type of a field, or the one of a case if there is one, or nothing
pub record Labelled (X : Type 0) : Type 0 where
  pub docs : Option Text
  pub name : Text
  pub of : X
  pub span : Span

abbrev pub field_said : Field → Labelled Ref
field_said x = record { docs = docs_said x.docs; name = string_bytes x.name; of = x.ty; span = x.span }

abbrev pub case_said : Case → Labelled (Option Ref)
case_said x = record { docs = docs_said x.docs; name = string_bytes x.name; of = x.ty; span = x.span }

abbrev pub flag_said : Flag → Labelled (Unit {0})
flag_said x = record { docs = docs_said x.docs; name = string_bytes x.name; of = tt; span = x.span }

abbrev pub enum_case_said : EnumCase → Labelled (Unit {0})
enum_case_said x = record { docs = docs_said x.docs; name = string_bytes x.name; of = tt; span = x.span }

pub data SaidKind : Type 0 where
  a_record : List (Labelled Ref) → SaidKind
  a_resource : SaidKind
  a_handle : Handle → SaidKind
  some_flags : List (Labelled (Unit {0})) → SaidKind
  a_tuple : List Ref → SaidKind
  a_variant : List (Labelled (Option Ref)) → SaidKind
  an_enum : List (Labelled (Unit {0})) → SaidKind
  an_option : Ref → SaidKind
  a_result : Option Ref → Option Ref → SaidKind
  a_list : Ref → SaidKind
  a_fixed_length_list : Ref → ℕ → SaidKind
  a_future : Option Ref → SaidKind
  a_stream : Option Ref → SaidKind
  an_alias : Ref → SaidKind
  an_unknown : SaidKind

abbrev pub kind_said : TypeDefKind → SaidKind
kind_said (kind.Record r) = a_record (map field_said r.fields.items)
kind_said kind.Resource = a_resource
kind_said (kind.Handle h) = a_handle h
kind_said (kind.Flags x) = some_flags (map flag_said x.flags.items)
kind_said (kind.Tuple t) = a_tuple t.types.items
kind_said (kind.Variant v) = a_variant (map case_said v.cases.items)
kind_said (kind.Enum e) = an_enum (map enum_case_said e.cases.items)
kind_said (kind.Option r) = an_option r
kind_said (kind.Result r) = a_result r.ok r.err
kind_said (kind.List r) = a_list r
kind_said (kind.FixedLengthList r n) = a_fixed_length_list r n
kind_said (kind.Future p) = a_future p
kind_said (kind.Stream p) = a_stream p
kind_said (kind.Alias r) = an_alias r
kind_said kind.Unknown = an_unknown

pub record SaidType : Type 0 where
  pub name : Option Text
  pub kind : SaidKind
  pub owner : TypeOwner
  pub docs : Option Text
  pub stability : SaidStability
  pub span : Span

abbrev pub type_said : TypeDef → SaidType
type_said d = record { name = text_said d.name; kind = kind_said d.kind; owner = d.owner; docs = docs_said d.docs; stability = stability_said d.stability; span = d.span }

-- ---- functions

pub record SaidParam : Type 0 where
  pub name : Text
  pub ty : Ref
  pub span : Span

abbrev pub param_said : Param → SaidParam
param_said p = record { name = string_bytes p.name; ty = p.ty; span = p.span }

pub record SaidFunction : Type 0 where
  pub name : Text
  pub kind : FunctionKind
  pub params : List SaidParam
  pub result : Option Ref
  pub docs : Option Text
  pub stability : SaidStability
  pub span : Span

abbrev pub function_said : Function → SaidFunction
function_said f = record {
  name = string_bytes f.name;
  kind = f.kind;
  params = map param_said f.params.items;
  result = f.result;
  docs = docs_said f.docs;
  stability = stability_said f.stability;
  span = f.span;
}

-- ---- interfaces

pub record SaidInterface : Type 0 where
  pub name : Option Text
  pub types : List (Text × ℕ)
  pub functions : List (Text × SaidFunction)
  pub docs : Option Text
  pub stability : SaidStability
  pub owner : Option ℕ
  pub span : Span

abbrev pub interface_said : Interface → SaidInterface
interface_said d = record {
  name = text_said d.name;
  types = names_said d.types.entries;
  functions = map (λ (e : String Global × Function). (string_bytes e.0, function_said e.1)) d.functions.entries;
  docs = docs_said d.docs;
  stability = stability_said d.stability;
  owner = d.«package»;
  span = d.span;
}

-- ---- worlds

pub data SaidItem : Type 0 where
  an_interface : ℕ → SaidStability → Span → SaidItem
  a_function : SaidFunction → SaidItem
  a_type : ℕ → Span → SaidItem

abbrev pub item_said : WorldItem → SaidItem
item_said (item.Interface id stability span) = an_interface id (stability_said stability) span
item_said (item.Function f) = a_function (function_said f)
item_said (item.TypeItem id span) = a_type id span

abbrev pub SaidEntry : Type 0
SaidEntry = Known × SaidItem

abbrev pub entry_said : WorldKey × WorldItem → SaidEntry
entry_said e = (known e.0, item_said e.1)

-- what a world includes is in its entries
pub record SaidWorld : Type 0 where
  pub name : Text
  pub imports : List SaidEntry
  pub exports : List SaidEntry
  pub owner : Option ℕ
  pub docs : Option Text
  pub stability : SaidStability
  pub span : Span

abbrev pub world_said : World → SaidWorld
world_said w = record {
  name = string_bytes w.name;
  imports = map entry_said w.imports.entries;
  exports = map entry_said w.exports.entries;
  owner = w.«package»;
  docs = docs_said w.docs;
  stability = stability_said w.stability;
  span = w.span;
}

-- ---- packages

pub record SaidPackage : Type 0 where
  pub namespace : Text
  pub name : Text
  pub version : Option Parts
  pub docs : Option Text
  pub interfaces : List (Text × ℕ)
  pub worlds : List (Text × ℕ)

abbrev pub package_said : Package → SaidPackage
package_said p = record {
  namespace = string_bytes p.name.namespace;
  name = string_bytes p.name.name;
  version = version_said p.name.version;
  docs = docs_said p.docs;
  interfaces = names_said p.interfaces.entries;
  worlds = names_said p.worlds.entries;
}
