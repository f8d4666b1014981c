-- Where a type may be defined, and of which types that is so (WIT, Types; Component Model Binary, Type Definitions).
use Rattle.std.specs.Prelude.{◌≡◌, ◌<◌, ℕ, List, [], map, Option, Some, None, true, string_bytes}
use Rattle.std.specs.List.{AllByRecursion as Each}
use Rattle.type_meaning.specs.Passed.component_value_types-declared-values-ValueType.{ValueType}
use Rattle.type_meaning.specs.Passed.component_value_types-declared-values-ValueType-TheVariants as values
use Rattle.type_meaning.specs.Passed.component_value_types-Types.{DefinedTypeValue}
use Rattle.distinct_names.specs.Names.{all_new}
use Rattle.wit_types.specs.declared.function.Param.{Param}
use Rattle.wit_types.specs.declared.kind.TypeDefKind.{TypeDefKind}
use Rattle.wit_types.specs.declared.kind.TypeDefKind.TheVariants as kinds
use Rattle.wit_types.specs.declared.interface.TypeDef.{TypeDef}
use Rattle.type_meaning.specs.Syntax.{syntax_of}

-- ---- where there are so many types

-- a part is none, or primitive, or it is there
abbrev pub IsBelow : ℕ → Option ValueType → Type 0
IsBelow n None = Unit {0}
IsBelow n (Some (values.Primitive p)) = Unit {0}
IsBelow n (Some (values.Index i)) = i < n

-- the parts of the type are there, and its labels differ
pub record MayBeDefined (n : ℕ) (d : DefinedTypeValue) : Type 0 where
  pub parts : Each (IsBelow n) (syntax_of d).parts
  pub labels : all_new [] (syntax_of d).form.labels ≡ true

-- ---- names

-- those of the fields of a record, of the cases of a variant or an enum, or of flags
abbrev pub labels_of : TypeDefKind → List (List ℕ)
labels_of (kinds.Record r) = map (λ f. string_bytes f.name) r.fields.items
labels_of (kinds.Variant v) = map (λ c. string_bytes c.name) v.cases.items
labels_of (kinds.Enum e) = map (λ c. string_bytes c.name) e.cases.items
labels_of (kinds.Flags f) = map (λ l. string_bytes l.name) f.flags.items
labels_of _ = []

-- they differ
abbrev pub HasLabelsApart : TypeDefKind → Type 0
HasLabelsApart k = all_new [] (labels_of k) ≡ true

-- so they do in each of these types
abbrev pub AreLabelsApart : List TypeDef → Type 0
AreLabelsApart types = Each (λ d. HasLabelsApart d.kind) types

-- and so do the names of these parameters
abbrev pub AreParametersApart : List Param → Type 0
AreParametersApart params = all_new [] (map (λ p. string_bytes p.name) params) ≡ true
