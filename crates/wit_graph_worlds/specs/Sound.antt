-- What worlds are made of is there (WIT, Item: `world`).
use Rattle.std.specs.Prelude.{◌≡◌, ℕ, List, Some, length, slice_get}
use Rattle.wit_types.specs.Passed.wit_order-Order.{Has}
use Rattle.wit_types.specs.Passed.wit_order-Places.{Rows}
use Rattle.wit_types.specs.declared.interface.Interface.{Interface}
use Rattle.wit_types.specs.declared.interface.TypeDef.{TypeDef}
use Rattle.wit_types.specs.declared.world.World.{World}
use Rattle.wit_reach.specs.Lists.{AreOwnersThere, AreInterfacesThere}
use Rattle.wit_reach.specs.Types.{AreTypesBackward, AreSidesThere}
use Rattle.wit_elaborated.specs.Worlds.{AreKeysOfItems, IsElaboratedWorld}
use Rattle.wit_uses.specs.Passed.wit_joined-Joined.{AreWorldsThere}
use Rattle.wit_graph_worlds.specs.Copies.{IsSameWorld}
use Rattle.wit_graph_worlds.specs.Worlds.{Worlds}

-- types are made of earlier ones and belong to one of so many interfaces, to a world or nowhere; worlds list what is made of these
-- types and names these interfaces, and an import under an interface is that interface; each world is there in both ways
pub record AreSound (n : ℕ) (types : List TypeDef) (w : Worlds) : Type 0 where
  pub backward : AreTypesBackward types
  pub owners : AreOwnersThere n types
  pub there : AreWorldsThere types w.listed
  pub interfaces : (v : World) → Has w.listed v → AreInterfacesThere n v
  pub keys : (v : World) → Has w.listed v → AreKeysOfItems v.imports.entries
  pub so_many : length w.elaborated ≡ length w.listed

-- so it is for one world
pub record IsWorldThere (n : ℕ) (types : List TypeDef) (w : World) : Type 0 where
  pub sides : AreSidesThere types w
  pub interfaces : AreInterfacesThere n w
  pub keys : AreKeysOfItems w.imports.entries

-- a world with all that it imports in the end, of what it lists
pub record IsElaborationOf (types : List TypeDef) (interfaces : List Interface) (uses : Rows) (listed elaborated : World) : Type 0 where
  pub world : World
  pub there : IsWorldThere (length uses) types world
  pub is_listed : IsSameWorld world listed
  pub is_elaborated : IsElaboratedWorld types interfaces uses world elaborated

-- each world imports in the end what it and its exports depend on
abbrev pub AreElaborated : List TypeDef → List Interface → Rows → Worlds → Type 0
AreElaborated types interfaces uses w = (i : ℕ) (listed elaborated : World) → slice_get w.listed i ≡ Some listed → slice_get w.elaborated i ≡ Some elaborated → IsElaborationOf types interfaces uses listed elaborated
