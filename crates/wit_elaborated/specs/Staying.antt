-- What a world imports in the end is there, and stays so where more comes behind what is there (Component Model, WIT, Worlds).
use Rattle.std.specs.Prelude.{◌≡◌, List, ◌++◌, length}
use Rattle.wit_reach.specs.Passed.wit_order-Places.{Rows}
use Rattle.wit_reach.specs.Passed.wit_types-declared-interface-TypeDef.{TypeDef}
use Rattle.wit_reach.specs.Passed.wit_types-declared-interface-Interface.{Interface}
use Rattle.wit_reach.specs.Passed.wit_types-declared-world-World.{World}
use Rattle.wit_reach.specs.Paths.{AreBackward}
use Rattle.wit_reach.specs.Reach.{Uses}
use Rattle.wit_reach.specs.Lists.{AreOwnersThere, AreInterfacesThere}
use Rattle.wit_reach.specs.Types.{AreTypesBackward, AreSidesThere}
use Rattle.wit_elaborated.specs.Worlds.{AreKeysOfItems, IsElaboratedWorld}

-- where all that the world is made of is there, and interfaces and types are made of earlier ones alone
abbrev pub ElaboratedWorldsStay : Type 0
ElaboratedWorldsStay =
    (types more : List TypeDef) (interfaces others : List Interface) (uses rows : Rows) (world found : World)
    → AreTypesBackward types → AreBackward (Uses uses) → AreOwnersThere (length uses) types → length uses ≡ length interfaces
    → AreSidesThere types world → AreInterfacesThere (length uses) world
    → IsElaboratedWorld types interfaces uses world found → IsElaboratedWorld (types ++ more) (interfaces ++ others) (uses ++ rows) world found

-- and then all is there that it is made of with what it imports in the end
abbrev pub ElaboratedWorldsAreThere : Type 0
ElaboratedWorldsAreThere =
    (types : List TypeDef) (interfaces : List Interface) (uses : Rows) (world found : World)
    → AreBackward (Uses uses) → AreOwnersThere (length uses) types
    → AreSidesThere types world → AreInterfacesThere (length uses) world → AreKeysOfItems world.imports.entries
    → IsElaboratedWorld types interfaces uses world found → AreSidesThere types found × AreInterfacesThere (length uses) found
