-- Graphs that say the same (WIT, Packages).
use Rattle.std.specs.Prelude.{◌≡◌, ℕ, ◌↔◌, Vec, map}
use Rattle.std.specs.List.{AllZip}
use Rattle.std.specs.declared.alloc.Global.{Global}
use Rattle.wit_order.specs.Order.{Has}
use Rattle.wit_order.specs.Places.{Rows}
use Rattle.wit_groups.specs.Passed.wit_graph-Graph.{Graph}
use Rattle.wit_push_causes.specs.Said.{type_said, interface_said, world_said, package_said}

-- of the same members, in whatever order
abbrev pub HaveSameMembers : Vec ℕ Global → Vec ℕ Global → Type 0
HaveSameMembers r q = (j : ℕ) → Has r.items j ↔ Has q.items j

abbrev pub AreSameRows : Rows → Rows → Type 0
AreSameRows g h = AllZip HaveSameMembers g h

-- packages stand under the same names, and packages, types, interfaces and worlds say the same, each under its id; interfaces use types of
-- the same others, from which alone it follows what they depend on
pub record IsSameGraph (g h : Graph) : Type 0 where
  pub names : h.names ≡ g.names
  pub packages : map package_said g.tables.packages ≡ map package_said h.tables.packages
  pub types : map type_said g.tables.types ≡ map type_said h.tables.types
  pub natures : h.tables.natures ≡ g.tables.natures
  pub interfaces : map interface_said g.tables.interfaces.all ≡ map interface_said h.tables.interfaces.all
  pub uses : AreSameRows g.tables.interfaces.uses h.tables.interfaces.uses
  pub listed : map world_said g.tables.worlds.listed ≡ map world_said h.tables.worlds.listed
  pub elaborated : map world_said g.tables.worlds.elaborated ≡ map world_said h.tables.worlds.elaborated
