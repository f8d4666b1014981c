-- Interfaces of which types are used have names (WIT, Use, Package Names).
use Rattle.std.specs.Prelude.{◌≡◌, ℕ, ◌+◌, ◌<◌, ◌⊎◌, List, ◌++◌, Some, String, slice_get}
use Rattle.std.specs.declared.alloc.Global.{Global}
use Rattle.wit_order.specs.Order.{Has}
use Rattle.wit_types.specs.Package.{interface_text}
use Rattle.wit_types.specs.declared.interface.Interface.{Interface}
use Rattle.wit_types.specs.declared.interface.TypeDef.{TypeDef}
use Rattle.wit_types.specs.declared.world.World.{World}
use Rattle.wit_types.specs.declared.world.WorldItem.{WorldItem}
use Rattle.wit_types.specs.declared.world_key.WorldKey.{WorldKey}
use Rattle.wit_types.specs.declared.world_key.WorldKey.TheVariants as key
use Rattle.wit_types.specs.declared.«package».Package.{Package}
use Rattle.wit_names.specs.Names.{IsKeyText}
use Rattle.wit_reach.specs.Deps.{AreUsed, IsInterfaceDep}
use Rattle.wit_reach.specs.Lists.{item_types, type_items, listed_in}

abbrev pub HasText : List Package → List Interface → WorldKey → List ℕ → Type 0
HasText packages interfaces k text = IsKeyText interface_text packages interfaces k (Some text)

-- the interface has a package and a name
abbrev pub IsNamed : List Package → List Interface → ℕ → Type 0
IsNamed packages interfaces j = (text : List ℕ) × HasText packages interfaces (key.Interface j) text

-- so have those of which types are used and those that worlds import otherwise than under a label
pub record AreUsedNamed (packages : List Package) (types : List TypeDef) (interfaces : List Interface) (worlds : List World) : Type 0 where
  pub in_interfaces : (k j : ℕ) (d : Interface) → slice_get interfaces k ≡ Some d → IsInterfaceDep types d j → IsNamed packages interfaces j
  pub in_worlds : (i j : ℕ) (w : World) → slice_get worlds i ≡ Some w → AreUsed types (item_types w) j → IsNamed packages interfaces j
  pub imported : (i j : ℕ) (w : World) → slice_get worlds i ≡ Some w → Has (listed_in w.imports.entries) j → IsNamed packages interfaces j

-- of what a world imports and exports
pub record SidesUseNamed (packages : List Package) (types : List TypeDef) (interfaces : List Interface) (imports exports : List (WorldKey × WorldItem)) : Type 0 where
  pub used : (j : ℕ) → AreUsed types (type_items imports ++ type_items exports) j → IsNamed packages interfaces j
  pub imported : (j : ℕ) → Has (listed_in imports) j → IsNamed packages interfaces j

-- ---- of a package

-- it asks for the interface, or holds it, and then it has a name
abbrev pub IsOwnNamed : ℕ → List Interface → ℕ → Type 0
IsOwnNamed others own j = (j < others) ⊎ ((k : ℕ) × (d : Interface) × (x : String Global) × (j ≡ others + k) × (slice_get own k ≡ Some d) × (d.name ≡ Some x))

pub record AreOwnUsedNamed (others : ℕ) (types : List TypeDef) (interfaces : List Interface) (worlds : List World) : Type 0 where
  pub in_interfaces : (k j : ℕ) (d : Interface) → slice_get interfaces k ≡ Some d → IsInterfaceDep types d j → IsOwnNamed others interfaces j
  pub in_worlds : (i j : ℕ) (w : World) → slice_get worlds i ≡ Some w → AreUsed types (item_types w) j → IsOwnNamed others interfaces j
  pub imported : (i j : ℕ) (w : World) → slice_get worlds i ≡ Some w → Has (listed_in w.imports.entries) j → IsOwnNamed others interfaces j
