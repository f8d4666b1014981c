-- A world that says the same (WIT, Item: `world`).
use Rattle.std.specs.Prelude.{◌≡◌, List, [], string_bytes}
use Rattle.std.specs.List.{AllZip}
use Rattle.wit_types.specs.declared.world.World.{World}
use Rattle.wit_types.specs.declared.world.WorldItem.{WorldItem}
use Rattle.wit_types.specs.declared.world_key.WorldKey.{WorldKey}
use Rattle.wit_uses.specs.Passed.wit_copies-Same.{IsSameDocs, IsSameStability, IsSameItem, IsSameKey}

abbrev pub IsSameEntry : WorldKey × WorldItem → WorldKey × WorldItem → Type 0
IsSameEntry e f = IsSameKey e.0 f.0 × IsSameItem e.1 f.1

abbrev pub AreSameEntries : List (WorldKey × WorldItem) → List (WorldKey × WorldItem) → Type 0
AreSameEntries es fs = AllZip IsSameEntry es fs

-- of the same types and interfaces, in the same order; what a world includes is in its entries
pub record IsSameWorld (w v : World) : Type 0 where
  pub name : string_bytes v.name ≡ string_bytes w.name
  pub imports : AreSameEntries w.imports.entries v.imports.entries
  pub exports : AreSameEntries w.exports.entries v.exports.entries
  pub owner_is : v.«package» ≡ w.«package»
  pub docs : IsSameDocs w.docs v.docs
  pub stability : IsSameStability w.stability v.stability
  pub no_includes : v.includes.items ≡ []
  pub span : v.span ≡ w.span
