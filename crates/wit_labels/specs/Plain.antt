-- What has a plain name in a world stands under it, once on each side (WIT, Item: `world`).
use Rattle.std.specs.Prelude.{◌≡◌, ℕ, List, [], ◌∷◌, Some, String, option_map, slice_get, string_bytes}
use Rattle.std.specs.declared.alloc.Global.{Global}
use Rattle.wit_order.specs.Order.{Has}
use Rattle.wit_words.specs.declared.source_map.Span.{Span}
use Rattle.wit_joined.specs.Passed.wit_types-declared-function-Function.{Function}
use Rattle.wit_joined.specs.Passed.wit_types-declared-interface-TypeDef.{TypeDef}
use Rattle.wit_joined.specs.Passed.wit_types-declared-world-World.{World}
use Rattle.wit_joined.specs.Passed.wit_types-declared-world-WorldItem.{WorldItem}
use Rattle.wit_joined.specs.Passed.wit_types-declared-world-WorldItem-TheVariants as item
use Rattle.wit_joined.specs.Passed.wit_types-declared-world_key-WorldKey.{WorldKey}
use Rattle.wit_joined.specs.Passed.wit_types-declared-world_key-WorldKey-TheVariants as key

-- no plain name stands twice
abbrev pub ArePlainApart : List (WorldKey × WorldItem) → Type 0
ArePlainApart [] = Unit {0}
ArePlainApart ((key.Name x, a) ∷ es) = ((y : String Global) (b : WorldItem) → Has es (key.Name y, b) → string_bytes x ≡ string_bytes y → ⊥) × ArePlainApart es
ArePlainApart ((key.Interface i, a) ∷ es) = ArePlainApart es

-- besides, functions and types stand under their names
pub record AreUnderTheirNames (types : List TypeDef) (es : List (WorldKey × WorldItem)) : Type 0 where
  pub apart : ArePlainApart es
  pub functions : (x : String Global) (f : Function) → Has es (key.Name x, item.Function f) → string_bytes f.name ≡ string_bytes x
  pub types_are : (x : String Global) (id : ℕ) (span : Span) → Has es (key.Name x, item.TypeItem id span) → (d : TypeDef) × (slice_get types id ≡ Some d) × (option_map string_bytes d.name ≡ Some (string_bytes x))

-- on both sides of a world
pub record IsWorldUnderItsNames (types : List TypeDef) (w : World) : Type 0 where
  pub imports : AreUnderTheirNames types w.imports.entries
  pub exports : AreUnderTheirNames types w.exports.entries
