-- How items of packages are named, and what they take of others (WIT, Use, Package Names, Item: `world`).
use Rattle.std.specs.Prelude.{◌≡◌, ℕ, ◌+◌, List, Some, slice_get}
use Rattle.wit_types.specs.declared.interface.Interface.{Interface}
use Rattle.wit_types.specs.declared.interface.TypeDef.{TypeDef}
use Rattle.wit_types.specs.declared.world.World.{World}
use Rattle.wit_types.specs.declared.«package».Package.{Package}
use Rattle.wit_types.specs.declared.interface.TypeOwner.TheVariants as belongs
use Rattle.wit_order.specs.Order.{Has}
use Rattle.wit_reach.specs.Lists.{type_items}
use Rattle.wit_reach.specs.Types.{IsOfItem}
use Rattle.wit_graph_worlds.specs.Passed.wit_uses-Uses.{TakesByUse, TakeByUse, InterfacesTakeByUse}
use Rattle.wit_item_names.specs.Apart.{AreNamedApart, AreOwnNamedApart}
use Rattle.wit_item_names.specs.Plain.{ArePlainlyNamed, AreUnderPlainNames, ArePlainIncludes}
use Rattle.wit_item_names.specs.Used.{AreUsedNamed, AreOwnUsedNamed}

-- interfaces and worlds take types of others by use alone, and names that have to tell things apart do
pub record AreItemsNamed (packages : List Package) (types : List TypeDef) (interfaces : List Interface) (worlds : List World) : Type 0 where
  pub taken : TakeByUse types interfaces worlds
  pub apart : AreNamedApart packages interfaces
  pub used : AreUsedNamed packages types interfaces worlds
  pub plain : (i : ℕ) (w : World) → slice_get worlds i ≡ Some w → ArePlainlyNamed types w.imports.entries

-- so it is of what a package holds, behind so many interfaces and worlds for which it asks
pub record AreOwnItemsNamed (others others_worlds : ℕ) (types : List TypeDef) (interfaces : List Interface) (worlds : List World) : Type 0 where
  pub interfaces_take : InterfacesTakeByUse others types interfaces
  pub worlds_take : (k : ℕ) (w : World) → slice_get worlds k ≡ Some w → TakesByUse types (belongs.World (others_worlds + k)) (Has (type_items w.imports.entries)) (IsOfItem w)
  pub apart : AreOwnNamedApart interfaces
  pub used : AreOwnUsedNamed others types interfaces worlds
  pub plain : (w : World) → Has worlds w → AreUnderPlainNames types w.imports.entries
  pub renames : (w : World) → Has worlds w → ArePlainIncludes w.includes.items
