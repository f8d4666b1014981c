-- The interfaces of a graph (WIT, Item: `interface`, Use).
use Rattle.std.specs.Prelude.{◌≡◌, ℕ, ◌↔◌, List, [], ◌∷◌, ◌++◌, Vec}
use Rattle.std.specs.declared.alloc.Global.{Global}
use Rattle.wit_order.specs.Order.{Has}
use Rattle.wit_order.specs.Places.{Rows}
use Rattle.wit_types.specs.declared.interface.Interface.{Interface}
use Rattle.wit_types.specs.declared.interface.TypeDef.{TypeDef}
use Rattle.wit_reach.specs.Deps.{IsInterfaceDep}

-- by their ids, and of which of them each uses types
pub record Interfaces : Type 0 where
  pub all : List Interface
  pub uses : Rows

abbrev pub IsRow : List TypeDef → Interface → Vec ℕ Global → Type 0
IsRow types d row = (j : ℕ) → Has row.items j ↔ IsInterfaceDep types d j

pub data AreRows (types : List TypeDef) : List Interface → Rows → Type 0 where
  no_rows : AreRows types [] []
  rows_and : (d : Interface) (row : Vec ℕ Global) (ds : List Interface) (rows : Rows) → IsRow types d row → AreRows types ds rows → AreRows types (d ∷ ds) (row ∷ rows)

-- more interfaces behind those that are there
pub record AreAdded (types : List TypeDef) (more : List Interface) (old new : Interfaces) : Type 0 where
  pub all_are : new.all ≡ old.all ++ more
  pub rows : Rows
  pub are_rows : AreRows types more rows
  pub uses_are : new.uses ≡ old.uses ++ rows

-- what was there is there, and maybe more
pub record HasGrown (old new : Interfaces) : Type 0 where
  pub all : List Interface
  pub all_are : new.all ≡ old.all ++ all
  pub uses : Rows
  pub uses_are : new.uses ≡ old.uses ++ uses
