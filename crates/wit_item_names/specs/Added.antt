-- Worlds that come to a graph with all that they include are named as they were (WIT, Item: `include`).
use Rattle.std.specs.Prelude.{◌≡◌, ℕ, ◌+◌, List, Some, length, slice_get}
use Rattle.wit_order.specs.Order.{Has}
use Rattle.wit_order.specs.Places.{Rows}
use Rattle.wit_types.specs.declared.interface.Interface.{Interface}
use Rattle.wit_types.specs.declared.interface.TypeDef.{TypeDef}
use Rattle.wit_types.specs.declared.interface.TypeOwner.TheVariants as belongs
use Rattle.wit_types.specs.declared.world.World.{World}
use Rattle.wit_types.specs.declared.«package».Package.{Package}
use Rattle.wit_labels.specs.Passed.wit_plans-declared-moves-MovedWorld.{MovedWorld}
use Rattle.wit_labels.specs.Passed.wit_placed-There.{IsOwnThere}
use Rattle.wit_graph_worlds.specs.Passed.wit_uses-Uses.{TakesByUse, WorldsTakeByUse}
use Rattle.wit_graph_worlds.specs.Passed.wit_uses-Moved.{moved_types, IsOfMoved}
use Rattle.wit_graph_worlds.specs.Added.{AreAdded}
use Rattle.wit_graph_worlds.specs.Sound.{AreSound}
use Rattle.wit_graph_worlds.specs.Worlds.{State}
use Rattle.wit_reach.specs.Holding.{AreNamedOwned}
use Rattle.wit_item_names.specs.Plain.{ArePlainlyNamed, AreUnderPlainNames, ArePlainIncludes}
use Rattle.wit_item_names.specs.Used.{SidesUseNamed}

-- worlds of a package come to those of a graph; all are made of what is there and take types by use
pub record Come (n : ℕ) (interfaces : List Interface) (uses : Rows) (owner : ℕ) (ms : List MovedWorld) (s t : State) : Type 0 where
  pub added : AreAdded interfaces uses owner ms s t
  pub sound : AreSound n s.types s.worlds
  pub own : (m : MovedWorld) → Has ms m → IsOwnThere s.types n m
  pub take : WorldsTakeByUse s.types s.worlds.listed
  pub own_take : (k : ℕ) (m : MovedWorld) → slice_get ms k ≡ Some m → TakesByUse s.types (belongs.World (length s.worlds.listed + k)) (Has (moved_types m)) (IsOfMoved m)

-- worlds use and import interfaces that have names
abbrev pub WorldsUseNamed : List Package → List TypeDef → List Interface → List World → Type 0
WorldsUseNamed packages types interfaces worlds = (w : World) → Has worlds w → SidesUseNamed packages types interfaces w.imports.entries w.exports.entries

-- where those that are there do and those that come, so do all of them
abbrev pub AddedWorldsUseNamed : Type 0
AddedWorldsUseNamed =
    (n : ℕ) (packages : List Package) (interfaces : List Interface) (uses : Rows) (owner : ℕ) (ms : List MovedWorld) (s t : State) → Come n interfaces uses owner ms s t
    → WorldsUseNamed packages s.types interfaces s.worlds.listed → ((m : MovedWorld) → Has ms m → SidesUseNamed packages s.types interfaces m.imports.items m.exports.items)
    → WorldsUseNamed packages t.types interfaces t.worlds.listed

-- worlds import what has plain names
abbrev pub ArePlainWorlds : List TypeDef → List World → Type 0
ArePlainWorlds types worlds = (w : World) → Has worlds w → ArePlainlyNamed types w.imports.entries

-- so it is of a world of a package without what it includes, and of names that come with this
pub record IsPlainWorld (types : List TypeDef) (m : MovedWorld) : Type 0 where
  pub imports : AreUnderPlainNames types m.imports.items
  pub renames : ArePlainIncludes m.includes.items

-- where those that are there do and those that come, and types with names belong somewhere, so do all of them
abbrev pub AddedWorldsArePlain : Type 0
AddedWorldsArePlain =
    (n : ℕ) (interfaces : List Interface) (uses : Rows) (owner : ℕ) (ms : List MovedWorld) (s t : State) → Come n interfaces uses owner ms s t
    → AreNamedOwned s.types → ArePlainWorlds s.types s.worlds.listed → ((m : MovedWorld) → Has ms m → IsPlainWorld s.types m)
    → ArePlainWorlds t.types t.worlds.listed
