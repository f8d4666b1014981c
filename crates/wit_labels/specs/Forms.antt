-- Types without names are forms that are made of other types, such as lists (WIT, Types).
use Rattle.std.specs.Prelude.{◌≡◌, ℕ, List, Some, None}
use Rattle.std.specs.List.{AllByRecursion as Each}
use Rattle.wit_joined.specs.Passed.wit_types-declared-interface-TypeDef.{TypeDef}
use Rattle.wit_joined.specs.Passed.wit_types-declared-kind-TypeDefKind.{TypeDefKind}
use Rattle.wit_joined.specs.Passed.wit_types-declared-world-World.{World}
use Rattle.wit_joined.specs.Passed.wit_moves-Moved.{Places}
use Rattle.wit_joined.specs.Passed.wit_moves-Plan.{OwnerPlaces, AreMovedDefs}
use Rattle.wit_joined.specs.Passed.wit_arena-Shape.{ShapeTree, kind_shape}
use Rattle.wit_joined.specs.Passed.wit_plans-declared-moves-MovedWorld.{MovedWorld}
use Rattle.wit_joined.specs.Joined.{IsJoinedWorld}

abbrev pub IsShaped : TypeDefKind → Type 0
IsShaped k = (s : ShapeTree) × (kind_shape k ≡ Some s)

-- a type without a name is one
abbrev pub IsFormOrNamed : TypeDef → Type 0
IsFormOrNamed d = d.name ≡ None → IsShaped d.kind

abbrev pub AreFormsOrNamed : List TypeDef → Type 0
AreFormsOrNamed types = Each IsFormOrNamed types

-- so it is of what stays of types
abbrev pub MovedTypesAreFormsOrNamed : Type 0
MovedTypesAreFormsOrNamed = (owners : OwnerPlaces) (places : Places) (first : ℕ) (old new : List TypeDef) → AreMovedDefs owners places first old new → AreFormsOrNamed old → AreFormsOrNamed new

-- and of types with those that a world brings to one that includes it
abbrev pub JoinedTypesAreFormsOrNamed : Type 0
JoinedTypesAreFormsOrNamed = (worlds : List World) (id owner : ℕ) (m : MovedWorld) (old new : List TypeDef) (w : World) → IsJoinedWorld worlds id owner m old new w → AreFormsOrNamed old → AreFormsOrNamed new
