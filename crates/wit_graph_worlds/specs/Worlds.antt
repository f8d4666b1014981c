-- The worlds of a graph of packages (WIT, Item: `world`).
use Rattle.std.specs.Prelude.{List}
use Rattle.wit_types.specs.declared.interface.TypeDef.{TypeDef}
use Rattle.wit_types.specs.declared.world.World.{World}

-- by their ids: what each lists, and each with all that it imports in the end
pub record Worlds : Type 0 where
  pub listed : List World
  pub elaborated : List World

-- with the types that they are made of
pub record State : Type 0 where
  pub types : List TypeDef
  pub worlds : Worlds

abbrev pub state : List TypeDef → Worlds → State
state types worlds = record { types = types; worlds = worlds }
