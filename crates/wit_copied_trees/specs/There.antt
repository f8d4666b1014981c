-- Types that come with an included world are made of earlier ones, and what comes with them of types that are there (WIT, Item: `include`).
use Rattle.std.specs.Prelude.{◌≡◌, ℕ, List, ◌++◌, length}
use Rattle.wit_arena.specs.Passed.wit_types-declared-interface-TypeDef.{TypeDef}
use Rattle.wit_arena.specs.Passed.wit_types-declared-world-IncludeName.{IncludeName}
use Rattle.wit_arena.specs.Passed.wit_types-declared-world-World.{World}
use Rattle.wit_arena.specs.Passed.wit_types-declared-world-WorldItem.{WorldItem}
use Rattle.wit_arena.specs.Passed.wit_types-declared-world_key-WorldKey.{WorldKey}
use Rattle.wit_includes.specs.Passed.wit_reach-Ids.{side_ids}
use Rattle.wit_includes.specs.Passed.wit_reach-Types.{AreTypesBackward, AreTypesThere, AreWorldTypes}
use Rattle.wit_includes.specs.Included.{AreIncludedTypes, AreIncludedEntries, copies_behind}

-- one for each type of the world, made of earlier ones
abbrev pub IncludedTypesAreBackward : Type 0
IncludedTypesAreBackward =
    (names : List IncludeName) (from into : ℕ) (world : World) (types : List TypeDef) (own : List ℕ) (new : List TypeDef)
    → AreTypesBackward types → AreWorldTypes from types world own → AreIncludedTypes names from into types own new
    → AreTypesBackward (types ++ new) × (length new ≡ length own)

-- what a side of the world brings is made of types that are there
abbrev pub IncludedSidesAreThere : Type 0
IncludedSidesAreThere =
    (names : List IncludeName) (types : List TypeDef) (own : List ℕ) (new : List TypeDef) (side brought : List (WorldKey × WorldItem))
    → length new ≡ length own → AreTypesThere types (side_ids side) → AreIncludedEntries names (copies_behind types own) side brought
    → AreTypesThere (types ++ new) (side_ids brought)
