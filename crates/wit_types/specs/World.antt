-- What the items of a world are (WIT, Item: `world` and Feature Gates).
use Rattle.std.specs.Prelude.{◌≡◌, ◌<◌, List, Some, length, slice_get}
use Rattle.wit_order.specs.Passed.wit_words-declared-source_map-Span.{Span}
use Rattle.wit_types.specs.declared.interface.TypeDef.{TypeDef}
use Rattle.wit_types.specs.declared.stability.Stability.{Stability}
use Rattle.wit_types.specs.declared.world.WorldItem.{WorldItem}
use Rattle.wit_types.specs.declared.world.WorldItem.TheVariants as item

-- a type is among these
abbrev pub HasItsType : List TypeDef → WorldItem → Type 0
HasItsType types (item.Interface id stability span) = Unit {0}
HasItsType types (item.Function f) = Unit {0}
HasItsType types (item.TypeItem id span) = id < length types

-- how stable an item is: a type as its definition says
abbrev pub IsStabilityOf : List TypeDef → WorldItem → Stability → Type 0
IsStabilityOf types (item.Interface id stability span) s = s ≡ stability
IsStabilityOf types (item.Function f) s = s ≡ f.stability
IsStabilityOf types (item.TypeItem id span) s = (d : TypeDef) × (slice_get types id ≡ Some d) × (s ≡ d.stability)

abbrev pub span_of : WorldItem → Span
span_of (item.Interface id stability span) = span
span_of (item.Function f) = f.span
span_of (item.TypeItem id span) = span
