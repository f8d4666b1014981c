-- A world with all that it includes takes types of other interfaces by use, too (WIT, Use, Item: `include`).
use Rattle.std.specs.Prelude.{ℕ, List, length}
use Rattle.wit_joined.specs.Passed.wit_order-Order.{Has}
use Rattle.wit_joined.specs.Passed.wit_types-declared-interface-TypeDef.{TypeDef}
use Rattle.wit_joined.specs.Passed.wit_types-declared-interface-TypeOwner-TheVariants as belongs
use Rattle.wit_joined.specs.Passed.wit_types-declared-world-World.{World}
use Rattle.wit_joined.specs.Passed.wit_plans-declared-moves-MovedWorld.{MovedWorld}
use Rattle.wit_placed.specs.Passed.wit_elaborated-Worlds.{AreKeysOfItems}
use Rattle.wit_joined.specs.Joined.{AreWorldsThere, IsJoinedWorld}
use Rattle.wit_joined.specs.Passed.wit_reach-Ids.{side_ids}
use Rattle.wit_joined.specs.Passed.wit_reach-Lists.{type_items}
use Rattle.wit_joined.specs.Passed.wit_reach-Types.{AreTypesBackward, AreTypesThere, IsOfItem}
use Rattle.wit_uses.specs.Uses.{TakesByUse, WorldsTakeByUse}
use Rattle.wit_uses.specs.Moved.{moved_types, IsOfMoved}

-- what a world of a package is made of is there, and an import under an interface is that
pub record IsMovedThere (types : List TypeDef) (m : MovedWorld) : Type 0 where
  pub imports : AreTypesThere types (side_ids m.imports.items)
  pub exports : AreTypesThere types (side_ids m.exports.items)
  pub keys : AreKeysOfItems m.imports.items

-- the world that is put behind those that are there, and these with its types
pub record AllTakeByUse (types : List TypeDef) (worlds : List World) (w : World) : Type 0 where
  pub earlier : WorldsTakeByUse types worlds
  pub last : TakesByUse types (belongs.World (length worlds)) (Has (type_items w.imports.entries)) (IsOfItem w)

-- where worlds that are there take types by use, and a world of a package, so does this with all of them that it includes
abbrev pub JoinedWorldsTakeByUse : Type 0
JoinedWorldsTakeByUse =
    (worlds : List World) (owner : ℕ) (m : MovedWorld) (old new : List TypeDef) (w : World) → AreTypesBackward old → AreWorldsThere old worlds → ((v : World) → Has worlds v → AreKeysOfItems v.imports.entries) → IsMovedThere old m
    → WorldsTakeByUse old worlds → TakesByUse old (belongs.World (length worlds)) (Has (moved_types m)) (IsOfMoved m) → IsJoinedWorld worlds (length worlds) owner m old new w
    → AllTakeByUse new worlds w
