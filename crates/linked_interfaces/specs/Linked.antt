-- Interfaces of a graph, of whose functions some are linked, are as the writer of imports asks (WIT, Item: `interface`, Use).
use Rattle.std.specs.Prelude.{◌≡◌, ℕ, List, Some, String, length, map, slice_get}
use Rattle.std.specs.declared.alloc.Global.{Global}
use Rattle.wit_order.specs.Order.{Has}
use Rattle.wit_types.specs.declared.function.Function.{Function}
use Rattle.wit_types.specs.declared.interface.Interface.{Interface}
use Rattle.wit_types.specs.declared.interface.TypeDef.{TypeDef}
use Rattle.wit_reach.specs.Holding.{AreListed, HoldTheirTypes}
use Rattle.wit_reach.specs.Lists.{AreOwnersThere}
use Rattle.wit_placed.specs.Naming.{HaveNamesApart}
use Rattle.component_imports.specs.Distinct.{AreNamesApart}
use Rattle.component_imports.specs.Order.{AreLinkedUpTo}

abbrev pub functions_of : Interface → List Function
functions_of d = map (λ (e : String Global × Function). e.1) d.functions.entries

-- linked functions of an interface are functions of it, each once
pub record AreLinkedOf (interfaces : List Interface) (linked : List (List Function)) : Type 0 where
  pub own : (k : ℕ) (fs : List Function) (f : Function) → slice_get linked k ≡ Some fs → Has fs f → (d : Interface) × (slice_get interfaces k ≡ Some d) × Has (functions_of d) f
  pub once : (k : ℕ) (fs : List Function) (i j : ℕ) (f : Function) → slice_get linked k ≡ Some fs → slice_get fs i ≡ Some f → slice_get fs j ≡ Some f → i ≡ j

-- then no two of the types of an interface and its linked functions have one name, where all types of interfaces stand in them and names
-- within each differ
abbrev pub LinkedNamesAreApart : Type 0
LinkedNamesAreApart =
    (types : List TypeDef) (interfaces : List Interface) (linked : List (List Function))
    → AreOwnersThere (length interfaces) types → HoldTheirTypes 0 types interfaces → AreListed 0 types interfaces → HaveNamesApart interfaces → AreLinkedOf interfaces linked
    → AreNamesApart types linked

-- and what linked functions take and give is made of types of their interface and of earlier ones
abbrev pub LinkedFunctionsAreUpTo : Type 0
LinkedFunctionsAreUpTo = (types : List TypeDef) (interfaces : List Interface) (linked : List (List Function)) → HoldTheirTypes 0 types interfaces → AreLinkedOf interfaces linked → AreLinkedUpTo types linked
