-- Names of one scope differ: labels within a type, and parameters of a function (WIT, Items).
use Rattle.std.specs.Prelude.{◌≡◌, ℕ, List, [], map, true, String, string_bytes}
use Rattle.std.specs.List.{AllByRecursion as Each}
use Rattle.std.specs.declared.alloc.Global.{Global}
use Rattle.distinct_names.specs.Names.{all_new}
use Rattle.wit_joined.specs.Passed.wit_types-declared-function-Function.{Function}
use Rattle.wit_joined.specs.Passed.wit_types-declared-function-Param.{Param}
use Rattle.wit_joined.specs.Passed.wit_types-declared-kind-TypeDefKind.{TypeDefKind}
use Rattle.wit_joined.specs.Passed.wit_types-declared-kind-TypeDefKind-TheVariants as kinds
use Rattle.wit_joined.specs.Passed.wit_types-declared-interface-Interface.{Interface}
use Rattle.wit_joined.specs.Passed.wit_types-declared-interface-TypeDef.{TypeDef}
use Rattle.wit_joined.specs.Passed.wit_types-declared-world-World.{World}
use Rattle.wit_joined.specs.Passed.wit_types-declared-world-WorldItem.{WorldItem}
use Rattle.wit_joined.specs.Passed.wit_types-declared-world-WorldItem-TheVariants as item
use Rattle.wit_joined.specs.Passed.wit_types-declared-world_key-WorldKey.{WorldKey}

-- ---- types

-- those of the fields of a record, of the cases of a variant or an enum, or of flags
abbrev pub labels_of : TypeDefKind → List (List ℕ)
labels_of (kinds.Record r) = map (λ f. string_bytes f.name) r.fields.items
labels_of (kinds.Variant v) = map (λ c. string_bytes c.name) v.cases.items
labels_of (kinds.Enum e) = map (λ c. string_bytes c.name) e.cases.items
labels_of (kinds.Flags f) = map (λ l. string_bytes l.name) f.flags.items
labels_of _ = []

-- they differ
abbrev pub HasLabelsApart : TypeDefKind → Type 0
HasLabelsApart k = all_new [] (labels_of k) ≡ true

-- so they do in each of these types
abbrev pub AreLabelsApart : List TypeDef → Type 0
AreLabelsApart types = Each (λ d. HasLabelsApart d.kind) types

-- ---- functions

-- and so do the names of these parameters
abbrev pub AreParametersApart : List Param → Type 0
AreParametersApart params = all_new [] (map (λ p. string_bytes p.name) params) ≡ true

abbrev pub HasParametersApart : Function → Type 0
HasParametersApart f = AreParametersApart f.params.items

abbrev pub HaveParametersApart : List Function → Type 0
HaveParametersApart fs = Each HasParametersApart fs

-- those of an interface
abbrev pub functions_in : List (String Global × Function) → List Function
functions_in es = map (λ (e : String Global × Function). e.1) es

abbrev pub IsInterfaceApart : Interface → Type 0
IsInterfaceApart d = HaveParametersApart (functions_in d.functions.entries)

-- and those that a world imports or exports
abbrev pub IsItemApart : WorldItem → Type 0
IsItemApart (item.Interface id stability span) = Unit {0}
IsItemApart (item.Function f) = HasParametersApart f
IsItemApart (item.TypeItem id span) = Unit {0}

abbrev pub IsSideApart : List (WorldKey × WorldItem) → Type 0
IsSideApart es = Each (λ (e : WorldKey × WorldItem). IsItemApart e.1) es

pub record IsWorldApart (w : World) : Type 0 where
  pub imports : IsSideApart w.imports.entries
  pub exports : IsSideApart w.exports.entries

-- ---- all of them

-- names within each of these types, and of the parameters of each function of these interfaces and worlds, differ
pub record AreNamesWithinApart (types : List TypeDef) (interfaces : List Interface) (worlds : List World) : Type 0 where
  pub labels : AreLabelsApart types
  pub interfaces_apart : Each IsInterfaceApart interfaces
  pub worlds_apart : Each IsWorldApart worlds
