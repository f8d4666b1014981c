-- What a world brings to one that includes it takes types of other interfaces by use, too (WIT, Use, Item: `include`).
use Rattle.std.specs.Prelude.{◌⊎◌, ℕ, List, ◌++◌}
use Rattle.wit_joined.specs.Passed.wit_order-Order.{Has}
use Rattle.wit_joined.specs.Passed.wit_types-declared-interface-TypeDef.{TypeDef}
use Rattle.wit_joined.specs.Passed.wit_types-declared-interface-TypeOwner-TheVariants as belongs
use Rattle.wit_joined.specs.Passed.wit_types-declared-world-IncludeName.{IncludeName}
use Rattle.wit_joined.specs.Passed.wit_types-declared-world-World.{World}
use Rattle.wit_joined.specs.Passed.wit_includes-Included.{IsIncluded}
use Rattle.wit_joined.specs.Passed.wit_includes-declared-worlds-Included.{Included}
use Rattle.wit_joined.specs.Passed.wit_reach-Ids.{side_ids}
use Rattle.wit_joined.specs.Passed.wit_reach-Lists.{type_items}
use Rattle.wit_joined.specs.Passed.wit_reach-Types.{AreTypesBackward, AreSidesThere, IsOfItem}
use Rattle.wit_uses.specs.Uses.{TakesByUse}

-- the types that are brought and listed, and those that items that are brought are made of
abbrev pub brought_types : Included → List ℕ
brought_types b = type_items b.imports.items

abbrev pub IsOfBrought : Included → ℕ → Type 0
IsOfBrought b i = Has (side_ids b.imports.items) i ⊎ Has (side_ids b.exports.items) i

-- where the included world takes types by use, so does what it brings, of the world that includes it
abbrev pub BroughtTakesByUse : Type 0
BroughtTakesByUse =
    (names : List IncludeName) (from into : ℕ) (types : List TypeDef) (world : World) (b : Included) → AreTypesBackward types → AreSidesThere types world → IsIncluded names from into types world b
    → TakesByUse types (belongs.World from) (Has (type_items world.imports.entries)) (IsOfItem world)
    → TakesByUse (types ++ b.types.items) (belongs.World into) (Has (brought_types b)) (IsOfBrought b)
