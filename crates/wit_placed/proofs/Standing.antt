-- Interfaces and worlds that stay.
use Rattle.std.proofs.Common.{List, inl, inr, refl, sym, subst}
use Rattle.wit_plans.specs.Passed.wit_order-Order.{Has}
use Rattle.wit_plans.specs.Passed.wit_types-declared-interface-Interface.{Interface}
use Rattle.wit_plans.specs.Passed.wit_types-declared-world-World.{World}
use Rattle.wit_moved_trees.specs.Passed.wit_moves-Breaks.{AnyOf, IsKept}
use Rattle.wit_elaborated.specs.Worlds.{AreKeysOfItems}
use Rattle.wit_plans.specs.declared.moves.MovedWorld.{MovedWorld}
use Rattle.wit_plans.specs.Checks.{InterfaceBreaks, WorldBreaks}
use Rattle.wit_plans.specs.Moves.{AreMovedInterfaces, no_interfaces, interface_goes, interface_stays, AreMovedWorlds, no_worlds, world_goes, world_stays}
use Rattle.wit_placed.specs.There.{IsOwnThere, MovedWorldsAreThere, IsInterfaceThere, MovedInterfacesAreThere}
use Rattle.wit_placed.proofs.Sides.{side_there, side_keys, kept_functions, names_below}

pub worlds_there : MovedWorldsAreThere
worlds_there features s types n old new within among kept keys moved = go old new kept keys moved
  where
    go : (ws : List World) (ms : List MovedWorld) → IsKept (AnyOf (WorldBreaks features s) ws) → ((w : World) → Has ws w → AreKeysOfItems w.imports.entries) → AreMovedWorlds features s ws ms
        → (m : MovedWorld) → Has ms m → IsOwnThere types n m
    go _ _ k a no_worlds m h = absurd h
    go _ _ k a (world_goes w ws ms st rest) m h = go ws ms (λ at b. k at (inr b)) (λ v x. a v (inr x)) rest m h
    go _ _ k a (world_stays w one ws ms st is rest) m h =
        elim h as (λ _. IsOwnThere types n m) [
          | inl here ↦ subst (IsOwnThere types n) (sym here) (record {
            imports = side_there features s.types types within s.interfaces n among w.imports.entries one.imports.items (λ at b. k at (inl (st, inl (inl b)))) is.imports;
            exports = side_there features s.types types within s.interfaces n among w.exports.entries one.exports.items (λ at b. k at (inl (st, inl (inr b)))) is.exports;
            keys = side_keys features s.types s.interfaces w.imports.entries one.imports.items (a w (inl refl)) is.imports;
          })
          | inr later ↦ go ws ms (λ at b. k at (inr b)) (λ v x. a v (inr x)) rest m later
        ]

pub interfaces_there : MovedInterfacesAreThere
interfaces_there features s owner types old new within kept moved = go old new kept moved
  where
    go : (ds es : List Interface) → IsKept (AnyOf (InterfaceBreaks features s) ds) → AreMovedInterfaces features s owner ds es → (d : Interface) → Has es d → IsInterfaceThere types d
    go _ _ k no_interfaces d h = absurd h
    go _ _ k (interface_goes o ds es st rest) d h = go ds es (λ at b. k at (inr b)) rest d h
    go _ _ k (interface_stays o one ds es st is rest) d h =
        elim h as (λ _. IsInterfaceThere types d) [
          | inl here ↦ subst (IsInterfaceThere types) (sym here) (record {
            names = names_below features s.types types within o.types.entries one.types.entries is.types;
            functions = kept_functions features s.types types within o.functions.entries one.functions.entries (λ at b. k at (inl (st, b))) is.functions;
          })
          | inr later ↦ go ds es (λ at b. k at (inr b)) rest d later
        ]
