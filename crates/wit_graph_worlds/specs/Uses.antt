-- Worlds that come to a graph take types of other interfaces by use, too (WIT, Use, Item: `world`).
use Rattle.std.specs.Prelude.{◌≡◌, ℕ, ◌+◌, List, Some, length, slice_get}
use Rattle.wit_types.specs.Passed.wit_order-Order.{Has}
use Rattle.wit_types.specs.Passed.wit_order-Places.{Rows}
use Rattle.wit_types.specs.declared.interface.Interface.{Interface}
use Rattle.wit_types.specs.declared.interface.TypeDef.{TypeDef}
use Rattle.wit_types.specs.declared.interface.TypeOwner.{TypeOwner}
use Rattle.wit_types.specs.declared.interface.TypeOwner.TheVariants as belongs
use Rattle.wit_types.specs.declared.world.World.{World}
use Rattle.wit_uses.specs.Passed.wit_plans-declared-moves-MovedWorld.{MovedWorld}
use Rattle.wit_reach.specs.Lists.{type_items}
use Rattle.wit_reach.specs.Types.{IsOfItem}
use Rattle.wit_uses.specs.Passed.wit_placed-There.{IsOwnThere}
use Rattle.wit_uses.specs.Uses.{TakesByUse, WorldsTakeByUse}
use Rattle.wit_uses.specs.Moved.{moved_types, IsOfMoved}
use Rattle.wit_graph_worlds.specs.Added.{AreAdded}
use Rattle.wit_graph_worlds.specs.Copies.{IsSameWorld}
use Rattle.wit_graph_worlds.specs.Sound.{AreSound}
use Rattle.wit_graph_worlds.specs.Worlds.{State}

-- where a world takes types by use, so does one that says the same
abbrev pub SameWorldTakesByUse : Type 0
SameWorldTakesByUse =
    (types : List TypeDef) (by : TypeOwner) (w v : World) → IsSameWorld w v
    → TakesByUse types by (Has (type_items w.imports.entries)) (IsOfItem w) → TakesByUse types by (Has (type_items v.imports.entries)) (IsOfItem v)

-- where the worlds of a graph take types by use, and several of a package, each as the one whose place it takes, so do all of them there
abbrev pub AddedWorldsTakeByUse : Type 0
AddedWorldsTakeByUse =
    (n : ℕ) (interfaces : List Interface) (uses : Rows) (owner : ℕ) (ms : List MovedWorld) (s t : State)
    → AreAdded interfaces uses owner ms s t → AreSound n s.types s.worlds → ((m : MovedWorld) → Has ms m → IsOwnThere s.types n m)
    → WorldsTakeByUse s.types s.worlds.listed
    → ((k : ℕ) (m : MovedWorld) → slice_get ms k ≡ Some m → TakesByUse s.types (belongs.World (length s.worlds.listed + k)) (Has (moved_types m)) (IsOfMoved m))
    → WorldsTakeByUse t.types t.worlds.listed
