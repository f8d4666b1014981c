-- Texts of keys tell apart what a world imports (WIT, Package Names, Item: `world`; Component Model, Import and Export Definitions).
use Rattle.std.specs.Prelude.{◌≡◌, ℕ, List, String, string_bytes}
use Rattle.std.specs.declared.alloc.Global.{Global}
use Rattle.wit_order.specs.Order.{Has}
use Rattle.wit_words.specs.declared.source_map.Span.{Span}
use Rattle.wit_types.specs.declared.function.Function.{Function}
use Rattle.wit_types.specs.declared.interface.Interface.{Interface}
use Rattle.wit_types.specs.declared.stability.Stability.{Stability}
use Rattle.wit_types.specs.declared.world.WorldItem.{WorldItem}
use Rattle.wit_types.specs.declared.world.WorldItem.TheVariants as item
use Rattle.wit_types.specs.declared.world_key.WorldKey.{WorldKey}
use Rattle.wit_types.specs.declared.world_key.WorldKey.TheVariants as key
use Rattle.wit_types.specs.declared.«package».Package.{Package}
use Rattle.wit_item_names.specs.Used.{HasText}

-- each key has one
abbrev pub HaveTexts : List Package → List Interface → List (WorldKey × WorldItem) → Type 0
HaveTexts packages interfaces es = (k : WorldKey) (x : WorldItem) → Has es (k, x) → (text : List ℕ) × HasText packages interfaces k text

-- interfaces under keys of one text are one, and what isn't an interface has another name
pub record AreTextsApart (packages : List Package) (interfaces : List Interface) (es : List (WorldKey × WorldItem)) : Type 0 where
  pub interfaces_apart : (k l : WorldKey) (i j : ℕ) (s t : Stability) (at to : Span) (text : List ℕ) → Has es (k, item.Interface i s at) → Has es (l, item.Interface j t to)
      → HasText packages interfaces k text → HasText packages interfaces l text → i ≡ j
  pub functions_apart : (k : WorldKey) (i : ℕ) (s : Stability) (at : Span) (x : String Global) (f : Function) → Has es (k, item.Interface i s at) → Has es (key.Name x, item.Function f) → HasText packages interfaces k (string_bytes x) → ⊥
  pub types_apart : (k : WorldKey) (i : ℕ) (s : Stability) (at to : Span) (x : String Global) (id : ℕ) → Has es (k, item.Interface i s at) → Has es (key.Name x, item.TypeItem id to) → HasText packages interfaces k (string_bytes x) → ⊥
