-- Plain names of what a world imports (WIT, Item: `world`; Component Model, Import and Export Definitions).
use Rattle.std.specs.Prelude.{◌≡◌, ℕ, List, String, string_bytes}
use Rattle.std.specs.declared.alloc.Global.{Global}
use Rattle.wit_order.specs.Order.{Has}
use Rattle.wit_words.specs.declared.source_map.Span.{Span}
use Rattle.wit_types.specs.declared.function.Function.{Function}
use Rattle.wit_types.specs.declared.interface.TypeDef.{TypeDef}
use Rattle.wit_types.specs.declared.world.IncludeName.{IncludeName}
use Rattle.wit_types.specs.declared.world.WorldInclude.{WorldInclude}
use Rattle.wit_types.specs.declared.world.WorldItem.{WorldItem}
use Rattle.wit_types.specs.declared.world.WorldItem.TheVariants as item
use Rattle.wit_types.specs.declared.world_key.WorldKey.{WorldKey}
use Rattle.wit_types.specs.declared.world_key.WorldKey.TheVariants as key
use Rattle.wit_core_names.specs.Texts.{IsNameOf}
use Rattle.wit_labels.specs.Passed.wit_plain_texts-Plain.{IsPlain}
use Rattle.wit_labels.specs.Plain.{ArePlainApart}

-- no plain name stands twice and none has marks; functions and types stand under their names
pub record ArePlainlyNamed (types : List TypeDef) (es : List (WorldKey × WorldItem)) : Type 0 where
  pub apart : ArePlainApart es
  pub plain : (x : String Global) (a : WorldItem) → Has es (key.Name x, a) → IsPlain (string_bytes x)
  pub functions : (x : String Global) (f : Function) → Has es (key.Name x, item.Function f) → string_bytes f.name ≡ string_bytes x
  pub types_are : (x : String Global) (id : ℕ) (span : Span) → Has es (key.Name x, item.TypeItem id span) → IsNameOf types id (string_bytes x)

-- so it is of what stays of a package's world, whose plain names differ when all stands there
pub record AreUnderPlainNames (types : List TypeDef) (es : List (WorldKey × WorldItem)) : Type 0 where
  pub plain : (x : String Global) (a : WorldItem) → Has es (key.Name x, a) → IsPlain (string_bytes x)
  pub functions : (x : String Global) (f : Function) → Has es (key.Name x, item.Function f) → string_bytes f.name ≡ string_bytes x
  pub types_are : (x : String Global) (id : ℕ) (span : Span) → Has es (key.Name x, item.TypeItem id span) → IsNameOf types id (string_bytes x)

-- and of names that come with an `include`
abbrev pub ArePlainRenames : List IncludeName → Type 0
ArePlainRenames names = (n : IncludeName) → Has names n → IsPlain (string_bytes n.as_)

abbrev pub ArePlainIncludes : List WorldInclude → Type 0
ArePlainIncludes includes = (n : WorldInclude) → Has includes n → ArePlainRenames n.names.items
