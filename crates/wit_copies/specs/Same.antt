-- What is said in the same words, and of the same types (WIT, Types, Items).
use Rattle.std.specs.Prelude.{◌≡◌, ℕ, List, Option, String, option_map, string_bytes}
use Rattle.std.specs.List.{AllZip}
use Rattle.std.specs.declared.alloc.Global.{Global}
use Rattle.semver.specs.declared.Version.{Version}
use Rattle.semver.specs.Identifiers.{parts_of}
use Rattle.wit_types.specs.Passed.wit_words-declared-source_map-Span.{Span}
use Rattle.wit_types.specs.declared.kind.«Type».{«Type» as Ref}
use Rattle.wit_types.specs.declared.kind.Handle.{Handle}
use Rattle.wit_types.specs.declared.kind.Field.{Field}
use Rattle.wit_types.specs.declared.kind.Case.{Case}
use Rattle.wit_types.specs.declared.kind.Flag.{Flag}
use Rattle.wit_types.specs.declared.kind.EnumCase.{EnumCase}
use Rattle.wit_types.specs.declared.kind.Record.{Record}
use Rattle.wit_types.specs.declared.kind.Tuple.{Tuple}
use Rattle.wit_types.specs.declared.kind.Variant.{Variant}
use Rattle.wit_types.specs.declared.kind.Flags.{Flags}
use Rattle.wit_types.specs.declared.kind.Enum.{Enum}
use Rattle.wit_types.specs.declared.kind.Result_.{Result_}
use Rattle.wit_types.specs.declared.kind.TypeDefKind.{TypeDefKind}
use Rattle.wit_types.specs.declared.kind.TypeDefKind.TheVariants as kind
use Rattle.wit_types.specs.declared.docs.Docs.{Docs}
use Rattle.wit_types.specs.declared.stability.Stability.{Stability}
use Rattle.wit_types.specs.declared.stability.Stability.TheVariants as stability
use Rattle.wit_types.specs.declared.interface.TypeDef.{TypeDef}
use Rattle.wit_types.specs.declared.function.Param.{Param}
use Rattle.wit_types.specs.declared.function.Function.{Function}
use Rattle.wit_types.specs.declared.world.WorldItem.{WorldItem}
use Rattle.wit_types.specs.declared.world.WorldItem.TheVariants as item
use Rattle.wit_types.specs.declared.world_key.WorldKey.{WorldKey}
use Rattle.wit_types.specs.declared.world_key.WorldKey.TheVariants as key

abbrev pub text_of : Option (String Global) → Option (List ℕ)
text_of s = option_map string_bytes s

abbrev pub IsSameDocs : Docs → Docs → Type 0
IsSameDocs d e = text_of e.contents ≡ text_of d.contents

abbrev pub IsSameVersion : Option Version → Option Version → Type 0
IsSameVersion v w = option_map parts_of w ≡ option_map parts_of v

pub data IsSameStability : Stability → Stability → Type 0 where
  same_unknown : IsSameStability stability.Unknown stability.Unknown
  same_unstable : (f g : String Global) (d e : Option Version) → string_bytes g ≡ string_bytes f → IsSameVersion d e → IsSameStability (stability.Unstable f d) (stability.Unstable g e)
  same_stable : (v w : Version) (d e : Option Version) → parts_of w ≡ parts_of v → IsSameVersion d e → IsSameStability (stability.Stable v d) (stability.Stable w e)

-- ---- types

pub record IsSameField (x y : Field) : Type 0 where
  pub docs : IsSameDocs x.docs y.docs
  pub name : string_bytes y.name ≡ string_bytes x.name
  pub ty : y.ty ≡ x.ty
  pub span : y.span ≡ x.span

pub record IsSameFlag (x y : Flag) : Type 0 where
  pub docs : IsSameDocs x.docs y.docs
  pub name : string_bytes y.name ≡ string_bytes x.name
  pub span : y.span ≡ x.span

pub record IsSameCase (x y : Case) : Type 0 where
  pub docs : IsSameDocs x.docs y.docs
  pub name : string_bytes y.name ≡ string_bytes x.name
  pub ty : y.ty ≡ x.ty
  pub span : y.span ≡ x.span

pub record IsSameEnumCase (x y : EnumCase) : Type 0 where
  pub docs : IsSameDocs x.docs y.docs
  pub name : string_bytes y.name ≡ string_bytes x.name
  pub span : y.span ≡ x.span

pub data IsSameKind : TypeDefKind → TypeDefKind → Type 0 where
  same_record : (r s : Record) → AllZip IsSameField r.fields.items s.fields.items → IsSameKind (kind.Record r) (kind.Record s)
  same_resource : IsSameKind kind.Resource kind.Resource
  same_handle : (h : Handle) → IsSameKind (kind.Handle h) (kind.Handle h)
  same_flags : (x y : Flags) → AllZip IsSameFlag x.flags.items y.flags.items → IsSameKind (kind.Flags x) (kind.Flags y)
  same_tuple : (t u : Tuple) → u.types.items ≡ t.types.items → IsSameKind (kind.Tuple t) (kind.Tuple u)
  same_variant : (v w : Variant) → AllZip IsSameCase v.cases.items w.cases.items → IsSameKind (kind.Variant v) (kind.Variant w)
  same_enum : (d e : Enum) → AllZip IsSameEnumCase d.cases.items e.cases.items → IsSameKind (kind.Enum d) (kind.Enum e)
  same_option : (r : Ref) → IsSameKind (kind.Option r) (kind.Option r)
  same_result : (r : Result_) → IsSameKind (kind.Result r) (kind.Result r)
  same_list : (r : Ref) → IsSameKind (kind.List r) (kind.List r)
  same_fixed_length_list : (r : Ref) (n : ℕ) → IsSameKind (kind.FixedLengthList r n) (kind.FixedLengthList r n)
  same_future : (p : Option Ref) → IsSameKind (kind.Future p) (kind.Future p)
  same_stream : (p : Option Ref) → IsSameKind (kind.Stream p) (kind.Stream p)
  same_alias : (r : Ref) → IsSameKind (kind.Alias r) (kind.Alias r)
  same_unknown_kind : IsSameKind kind.Unknown kind.Unknown

pub record IsSameDef (d e : TypeDef) : Type 0 where
  pub name : text_of e.name ≡ text_of d.name
  pub kind : IsSameKind d.kind e.kind
  pub owner_is : e.owner ≡ d.owner
  pub docs : IsSameDocs d.docs e.docs
  pub stability : IsSameStability d.stability e.stability
  pub span : e.span ≡ d.span

-- ---- what worlds import and export

pub record IsSameParam (p q : Param) : Type 0 where
  pub name : string_bytes q.name ≡ string_bytes p.name
  pub ty : q.ty ≡ p.ty
  pub span : q.span ≡ p.span

pub record IsSameFunction (f g : Function) : Type 0 where
  pub name : string_bytes g.name ≡ string_bytes f.name
  pub kind : g.kind ≡ f.kind
  pub params : AllZip IsSameParam f.params.items g.params.items
  pub result : g.result ≡ f.result
  pub docs : IsSameDocs f.docs g.docs
  pub stability : IsSameStability f.stability g.stability
  pub span : g.span ≡ f.span

pub data IsSameItem : WorldItem → WorldItem → Type 0 where
  same_interface : (id : ℕ) (s t : Stability) (span : Span) → IsSameStability s t → IsSameItem (item.Interface id s span) (item.Interface id t span)
  same_function : (f g : Function) → IsSameFunction f g → IsSameItem (item.Function f) (item.Function g)
  same_type : (id : ℕ) (span : Span) → IsSameItem (item.TypeItem id span) (item.TypeItem id span)

pub data IsSameKey : WorldKey → WorldKey → Type 0 where
  same_name : (x y : String Global) → string_bytes y ≡ string_bytes x → IsSameKey (key.Name x) (key.Name y)
  same_key_interface : (id : ℕ) → IsSameKey (key.Interface id) (key.Interface id)
