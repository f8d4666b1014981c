-- Types that stand in a world are its own, and stand under their names (WIT, Item: `world`, Item: `include`).
use Rattle.std.specs.Prelude.{◌≡◌, ℕ, List, ◌++◌, Some, String, length, map, option_map, slice_get, string_bytes}
use Rattle.std.specs.List.{AllByRecursion as Each}
use Rattle.std.specs.declared.alloc.Global.{Global}
use Rattle.wit_joined.specs.Passed.wit_types-declared-interface-Interface.{Interface}
use Rattle.wit_joined.specs.Passed.wit_types-declared-interface-TypeDef.{TypeDef}
use Rattle.wit_joined.specs.Passed.wit_types-declared-interface-TypeOwner-TheVariants as belongs
use Rattle.wit_joined.specs.Passed.wit_types-declared-world-IncludeName.{IncludeName}
use Rattle.wit_joined.specs.Passed.wit_types-declared-world-World.{World}
use Rattle.wit_joined.specs.Passed.wit_types-declared-world-WorldItem.{WorldItem}
use Rattle.wit_joined.specs.Passed.wit_types-declared-world-WorldItem-TheVariants as item
use Rattle.wit_joined.specs.Passed.wit_types-declared-world_key-WorldKey.{WorldKey}
use Rattle.wit_joined.specs.Passed.wit_types-declared-world_key-WorldKey-TheVariants as key
use Rattle.wit_joined.specs.Passed.wit_features-Features.{FeatureSet}
use Rattle.wit_joined.specs.Passed.wit_moves-Moved.{Places, place_of}
use Rattle.wit_joined.specs.Passed.wit_moves-Plan.{OwnerPlaces}
use Rattle.wit_joined.specs.Passed.wit_moves-Worlds.{IsMovedSide}
use Rattle.wit_joined.specs.Passed.wit_finding-Types.{type_found}
use Rattle.wit_joined.specs.Passed.wit_plans-Checks.{Standing}
use Rattle.wit_joined.specs.Passed.wit_plans-declared-moves-MovedWorld.{MovedWorld}
use Rattle.wit_placed.specs.Order.{AreBehind}
use Rattle.wit_joined.specs.Passed.wit_includes-Included.{IsIncluded}
use Rattle.wit_joined.specs.Passed.wit_includes-declared-worlds-Included.{Included}
use Rattle.wit_joined.specs.Joined.{IsJoinedWorld}

-- a type of that name, which belongs to the world
pub record IsOwnType (types : List TypeDef) (w : ℕ) (x : String Global) (id : ℕ) : Type 0 where
  pub def : TypeDef
  pub there : slice_get types id ≡ Some def
  pub name : option_map string_bytes def.name ≡ Some (string_bytes x)
  pub owner : def.owner ≡ belongs.World w

abbrev pub IsOwnItem : List TypeDef → ℕ → String Global → WorldItem → Type 0
IsOwnItem types w x (item.Interface id stability span) = Unit {0}
IsOwnItem types w x (item.Function f) = Unit {0}
IsOwnItem types w x (item.TypeItem id span) = IsOwnType types w x id

abbrev pub IsOwnEntry : List TypeDef → ℕ → WorldKey × WorldItem → Type 0
IsOwnEntry types w (key.Name x, b) = IsOwnItem types w x b
IsOwnEntry types w (key.Interface i, b) = Unit {0}

-- each type on a side is so
abbrev pub HasOwnTypes : List TypeDef → ℕ → List (WorldKey × WorldItem) → Type 0
HasOwnTypes types w es = Each (IsOwnEntry types w) es

-- with more types, too
abbrev pub OwnTypesStay : Type 0
OwnTypesStay = (types more : List TypeDef) (w : ℕ) (es : List (WorldKey × WorldItem)) → HasOwnTypes types w es → HasOwnTypes (types ++ more) w es

-- and what stays of a side, where the world stands
abbrev pub MovedSidesHaveOwnTypes : Type 0
MovedSidesHaveOwnTypes =
    (features : FeatureSet) (owners : OwnerPlaces) (s : Standing) (owner : ℕ) (foreign own graph moved : List TypeDef) (others : Places) (own_interfaces new_interfaces interfaces : List Interface) (others_interfaces : Places)
    → AreBehind features owners s owner foreign own graph moved others own_interfaces new_interfaces others_interfaces (length interfaces)
    → others ≡ map (type_found interfaces others_interfaces) foreign
    → (v w : ℕ) (old new : List (WorldKey × WorldItem)) → place_of owners.worlds v ≡ Some w → IsMovedSide features s.types s.interfaces old new → HasOwnTypes (foreign ++ own) v old → HasOwnTypes (graph ++ moved) w new

-- and what a world brings to another, under changed names
abbrev pub BroughtSidesHaveOwnTypes : Type 0
BroughtSidesHaveOwnTypes =
    (names : List IncludeName) (from into : ℕ) (types : List TypeDef) (world : World) (b : Included) → IsIncluded names from into types world b
    → HasOwnTypes types from world.imports.entries → HasOwnTypes (types ++ b.types.items) into b.imports.items

-- and a world with all that it includes of those in front of it
abbrev pub JoinedSidesHaveOwnTypes : Type 0
JoinedSidesHaveOwnTypes =
    (worlds : List World) (id owner : ℕ) (m : MovedWorld) (old new : List TypeDef) (w : World) → IsJoinedWorld worlds id owner m old new w
    → ((i : ℕ) (v : World) → slice_get worlds i ≡ Some v → HasOwnTypes old i v.imports.entries) → HasOwnTypes old id m.imports.items → HasOwnTypes new id w.imports.entries
