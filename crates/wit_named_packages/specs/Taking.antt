-- What resolved packages take of other interfaces: types, by `use` alone, of interfaces that have names (WIT, Use).
use Rattle.std.specs.Prelude.{◌≡◌, ℕ, List, Some, slice_get}
use Rattle.wit_types.specs.declared.interface.TypeOwner.TheVariants as belongs
use Rattle.wit_types.specs.declared.world.World.{World}
use Rattle.wit_types.specs.declared.«package».UnresolvedPackage.{UnresolvedPackage}
use Rattle.wit_order.specs.Order.{Has}
use Rattle.wit_syntax.specs.Ast.{FileTree}
use Rattle.wit_reach.specs.Lists.{type_items}
use Rattle.wit_reach.specs.Types.{IsOfItem}
use Rattle.wit_named_graphs.specs.Passed.wit_uses-Uses.{TakesByUse, InterfacesTakeByUse}
use Rattle.wit_named_graphs.specs.Passed.wit_item_names-Used.{AreOwnUsedNamed}
use Rattle.wit_well_formed.specs.Passed.wit_graph_parts-Own.{asked, own_parts}
use Rattle.wit_well_formed.specs.Passed.wit_package-Steps.{Resolves}

abbrev pub ResolvedInterfacesTakeByUse : Type 0
ResolvedInterfacesTakeByUse = (files : List FileTree) (p : UnresolvedPackage) → Resolves files p → InterfacesTakeByUse (asked p).interfaces p.types (own_parts p).interfaces

-- of worlds of other packages there is nothing to take
abbrev pub ResolvedWorldsTakeByUse : Type 0
ResolvedWorldsTakeByUse =
    (files : List FileTree) (p : UnresolvedPackage) → Resolves files p → (n : ℕ) (w : World) → slice_get p.worlds n ≡ Some w → TakesByUse p.types (belongs.World n) (Has (type_items w.imports.entries)) (IsOfItem w)

-- what stands in a world under a label has no name, and no path leads to it
abbrev pub UsedInterfacesAreNamed : Type 0
UsedInterfacesAreNamed =
    (files : List FileTree) (p : UnresolvedPackage) → Resolves files p → AreOwnUsedNamed (asked p).interfaces p.types (own_parts p).interfaces (own_parts p).worlds
