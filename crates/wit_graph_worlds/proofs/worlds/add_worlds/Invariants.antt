use Rattle.std.proofs.Common.{◌≡◌, ◌++◌, List, length}
use Rattle.wit_types.specs.Passed.wit_order-Order.{Has}
use Rattle.wit_types.specs.declared.interface.TypeDef.{TypeDef}
use Rattle.wit_types.specs.declared.world.World.{World}
use Rattle.wit_uses.specs.Passed.wit_plans-declared-moves-MovedWorld.{MovedWorld}
use Rattle.wit_uses.specs.Passed.wit_placed-There.{IsOwnThere}
use Rattle.wit_graph_worlds.specs.Sound.{AreSound, AreElaborated}
use Rattle.wit_graph_worlds.specs.Worlds.{state}
use Rattle.wit_graph_worlds.specs.Added.{AreAdded}
use Rattle.wit_graph_worlds.proofs.worlds.add_worlds.Given as goal

abbrev pub invariant-loop-world : goal.invariant-loop-world
invariant-loop-world l = record {
  done : List MovedWorld;
  left : l.fn.moved.items ≡ done ++ l.world-iterator.rest.items;
  added : AreAdded l.interfaces.interfaces.now l.interfaces.uses.now l.owner done (state l.fn.types l.fn.worlds) (state l.types l.worlds);
  sound : AreSound (length l.interfaces.uses.now) l.types l.worlds;
  elaborated : AreElaborated l.types l.interfaces.interfaces.now l.interfaces.uses.now l.worlds;
  there : (m : MovedWorld) → Has l.world-iterator.rest.items m → IsOwnThere l.types (length l.interfaces.uses.now) m;
  types_grown : (more : List TypeDef) × (l.types ≡ l.fn.types ++ more);
  listed_grown : (more : List World) × (l.worlds.listed ≡ l.fn.worlds.listed ++ more);
  elaborated_grown : (more : List World) × (l.worlds.elaborated ≡ l.fn.worlds.elaborated ++ more);
}
