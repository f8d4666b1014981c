-- What is a package's own (WIT, Packages, Use).
use Rattle.std.specs.Prelude.{◌≡◌, ℕ, ◌≤◌, length, take, drop}
use Rattle.wit_order.specs.Order.{Has}
use Rattle.wit_types.specs.declared.world.World.{World}
use Rattle.wit_types.specs.declared.«package».UnresolvedPackage.{UnresolvedPackage}
use Rattle.wit_reach.specs.Holding.{AreListed, HoldTheirTypes}
use Rattle.wit_graph_worlds.specs.Passed.wit_elaborated-Worlds.{AreKeysOfItems}
use Rattle.wit_graph_worlds.specs.Passed.wit_finding-Asks.{AreDepsThere, items_of}
use Rattle.wit_graph_worlds.specs.Passed.wit_finding-Foreign.{counts_of}
use Rattle.wit_graph_worlds.specs.Passed.wit_finding-declared-counts-Counts.{Counts}
use Rattle.wit_graph_worlds.specs.Passed.wit_placed-Order.{AreNamelessFree}
use Rattle.wit_graph_worlds.specs.Passed.wit_placed-Listed.{AreOwnersBehind}
use Rattle.wit_graph_worlds.specs.Passed.wit_placed-Naming.{HaveNamesApart}
use Rattle.wit_graph_worlds.specs.Passed.wit_plans-Plans.{Parts}
use Rattle.wit_graph_parts.specs.declared.own.OwnParts.{OwnParts}

-- how many interfaces and worlds it asks of others, and how many types; they come first
abbrev pub asked : UnresolvedPackage → Counts
asked p = counts_of (items_of p.foreign_deps.entries)

abbrev pub asked_types : UnresolvedPackage → ℕ
asked_types p = length p.unknown_type_spans.items

-- what stands behind the first so many interfaces and worlds
abbrev pub parts_behind : ℕ → ℕ → UnresolvedPackage → Parts
parts_behind interfaces worlds p = record {
  unknown = take (asked_types p) p.types;
  types = drop (asked_types p) p.types;
  interfaces = drop interfaces p.interfaces;
  worlds = drop worlds p.worlds;
}

abbrev pub own_parts : UnresolvedPackage → Parts
own_parts p = parts_behind (asked p).interfaces (asked p).worlds p

-- all that it asks for is there with its place; its types without names belong nowhere, and none to an interface of another package; its
-- interfaces hold types that are made of theirs and of those of earlier ones, all that belong to them, and names within each differ; and
-- what its worlds import under an interface is that
pub record IsWellFormed (p : UnresolvedPackage) : Type 0 where
  pub spans : length p.foreign_dep_spans.items ≡ length p.foreign_deps.entries
  pub deps : AreDepsThere p.interfaces p.worlds (items_of p.foreign_deps.entries)
  pub unknown : asked_types p ≤ length p.types
  pub nameless : AreNamelessFree (own_parts p).types
  pub owned : AreOwnersBehind (asked p).interfaces (own_parts p).types
  pub holds : HoldTheirTypes (asked p).interfaces p.types (own_parts p).interfaces
  pub listed : AreListed (asked p).interfaces p.types (own_parts p).interfaces
  pub names : HaveNamesApart (own_parts p).interfaces
  pub keys : (w : World) → Has (own_parts p).worlds w → AreKeysOfItems w.imports.entries

-- what the values of the code stand for
abbrev pub parts : OwnParts → Parts
parts o = record { unknown = o.unknown.items; types = o.types.items; interfaces = o.interfaces.items; worlds = o.worlds.items }
