-- What a world brings to one that includes it has names within types and functions that differ, too (WIT, Item: `include`).
use Rattle.std.specs.Prelude.{ℕ, List}
use Rattle.std.specs.List.{AllByRecursion as Each}
use Rattle.wit_joined.specs.Passed.wit_types-declared-interface-TypeDef.{TypeDef}
use Rattle.wit_joined.specs.Passed.wit_types-declared-world-IncludeName.{IncludeName}
use Rattle.wit_joined.specs.Passed.wit_types-declared-world-World.{World}
use Rattle.wit_joined.specs.Passed.wit_includes-Included.{IsIncluded}
use Rattle.wit_joined.specs.Passed.wit_includes-declared-worlds-Included.{Included}
use Rattle.wit_joined.specs.Passed.wit_plans-declared-moves-MovedWorld.{MovedWorld}
use Rattle.wit_joined.specs.Joined.{IsJoinedWorld}
use Rattle.wit_labels.specs.Labels.{AreLabelsApart, IsSideApart, IsWorldApart}
use Rattle.wit_labels.specs.Moved.{IsMovedWorldApart}

-- what is brought
pub record IsBroughtApart (b : Included) : Type 0 where
  pub types : AreLabelsApart b.types.items
  pub imports : IsSideApart b.imports.items
  pub exports : IsSideApart b.exports.items

abbrev pub BroughtIsApart : Type 0
BroughtIsApart = (names : List IncludeName) (from into : ℕ) (types : List TypeDef) (world : World) (b : Included) → IsIncluded names from into types world b → AreLabelsApart types → IsWorldApart world → IsBroughtApart b

-- a world with all that it includes, and the types with those that it brings
pub record IsJoinedApart (types : List TypeDef) (w : World) : Type 0 where
  pub types_apart : AreLabelsApart types
  pub world_apart : IsWorldApart w

abbrev pub JoinedWorldsAreApart : Type 0
JoinedWorldsAreApart =
    (worlds : List World) (id owner : ℕ) (m : MovedWorld) (old new : List TypeDef) (w : World) → IsJoinedWorld worlds id owner m old new w
    → AreLabelsApart old → Each IsWorldApart worlds → IsMovedWorldApart m → IsJoinedApart new w
