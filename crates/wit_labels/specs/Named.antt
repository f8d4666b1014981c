-- Plain names of what stays of worlds, and of worlds with all that they include, have no marks, differ, and are those of functions (WIT, Item:
-- `include`).
use Rattle.std.specs.Prelude.{◌≡◌, ℕ, List, String, string_bytes}
use Rattle.std.specs.List.{AllByRecursion as Each}
use Rattle.std.specs.declared.alloc.Global.{Global}
use Rattle.wit_order.specs.Order.{Has}
use Rattle.wit_order.specs.Places.{Rows}
use Rattle.wit_joined.specs.Passed.wit_types-declared-interface-Interface.{Interface}
use Rattle.wit_joined.specs.Passed.wit_types-declared-interface-TypeDef.{TypeDef}
use Rattle.wit_joined.specs.Passed.wit_types-declared-world-IncludeName.{IncludeName}
use Rattle.wit_joined.specs.Passed.wit_types-declared-world-World.{World}
use Rattle.wit_joined.specs.Passed.wit_types-declared-world-WorldInclude.{WorldInclude}
use Rattle.wit_joined.specs.Passed.wit_types-declared-world-WorldItem.{WorldItem}
use Rattle.wit_joined.specs.Passed.wit_types-declared-world-WorldItem-TheVariants as item
use Rattle.wit_joined.specs.Passed.wit_types-declared-world_key-WorldKey.{WorldKey}
use Rattle.wit_joined.specs.Passed.wit_types-declared-world_key-WorldKey-TheVariants as key
use Rattle.wit_joined.specs.Passed.wit_features-Features.{FeatureSet}
use Rattle.wit_joined.specs.Passed.wit_moves-Moved.{Places}
use Rattle.wit_joined.specs.Passed.wit_moves-Worlds.{IsMovedSide}
use Rattle.wit_joined.specs.Passed.wit_plans-Checks.{Standing}
use Rattle.wit_joined.specs.Passed.wit_plans-Moves.{IsMovedWorld}
use Rattle.wit_joined.specs.Passed.wit_plans-declared-moves-MovedWorld.{MovedWorld}
use Rattle.wit_placed.specs.Passed.wit_elaborated-Worlds.{IsElaboratedWorld}
use Rattle.wit_joined.specs.Passed.wit_includes-Included.{IsIncluded}
use Rattle.wit_joined.specs.Passed.wit_includes-declared-worlds-Included.{Included}
use Rattle.wit_joined.specs.Joined.{IsJoinedWorld}
use Rattle.wit_plain_texts.specs.Plain.{IsPlain}
use Rattle.wit_labels.specs.Plain.{ArePlainApart, AreUnderTheirNames}

-- a function has the name under which it stands
abbrev pub IsNamedItem : String Global → WorldItem → Type 0
IsNamedItem x (item.Interface id stability span) = Unit {0}
IsNamedItem x (item.Function f) = string_bytes f.name ≡ string_bytes x
IsNamedItem x (item.TypeItem id span) = Unit {0}

-- and the name has no marks
abbrev pub IsPlainEntry : WorldKey × WorldItem → Type 0
IsPlainEntry (key.Name x, b) = IsPlain (string_bytes x) × IsNamedItem x b
IsPlainEntry (key.Interface i, b) = Unit {0}

abbrev pub IsSidePlain : List (WorldKey × WorldItem) → Type 0
IsSidePlain es = Each IsPlainEntry es

-- besides, no plain name stands twice
pub record IsSideNamed (es : List (WorldKey × WorldItem)) : Type 0 where
  pub apart : ArePlainApart es
  pub plain : IsSidePlain es

pub record AreSidesPlain (imports exports : List (WorldKey × WorldItem)) : Type 0 where
  pub imports_plain : IsSidePlain imports
  pub exports_plain : IsSidePlain exports

-- names to which others are changed have no marks
abbrev pub ArePlainChanges : List IncludeName → Type 0
ArePlainChanges names = Each (λ (n : IncludeName). IsPlain (string_bytes n.as_)) names

-- ---- laws

-- so it is where functions and types stand under their names, and these have no marks
abbrev pub SidesAreNamed : Type 0
SidesAreNamed =
    (types : List TypeDef) (es : List (WorldKey × WorldItem)) → AreUnderTheirNames types es → ((x : String Global) (b : WorldItem) → Has es (key.Name x, b) → IsPlain (string_bytes x)) → IsSideNamed es

-- what stays of a side still is
abbrev pub MovedSidesAreNamed : Type 0
MovedSidesAreNamed = (features : FeatureSet) (places interfaces : Places) (old new : List (WorldKey × WorldItem)) → IsMovedSide features places interfaces old new → IsSideNamed old → IsSideNamed new

-- and so is what stays of a world, with names to which those of worlds that it includes are changed
abbrev pub AreChangesPlain : List WorldInclude → Type 0
AreChangesPlain includes = Each (λ (i : WorldInclude). ArePlainChanges i.names.items) includes

pub record IsWorldNamed (imports exports : List (WorldKey × WorldItem)) (includes : List WorldInclude) : Type 0 where
  pub imports_named : IsSideNamed imports
  pub exports_named : IsSideNamed exports
  pub changes : AreChangesPlain includes

abbrev pub MovedWorldsAreNamed : Type 0
MovedWorldsAreNamed =
    (features : FeatureSet) (s : Standing) (old : World) (new : MovedWorld) → IsMovedWorld features s old new → IsWorldNamed old.imports.entries old.exports.entries old.includes.items
    → IsWorldNamed new.imports.items new.exports.items new.includes.items

-- and all that a world imports in the end
abbrev pub ElaboratedSidesAreNamed : Type 0
ElaboratedSidesAreNamed = (types : List TypeDef) (interfaces : List Interface) (uses : Rows) (world found : World) → IsElaboratedWorld types interfaces uses world found → IsSideNamed world.imports.entries → IsSideNamed found.imports.entries

-- what a world brings, under changed names, has no marks
abbrev pub BroughtSidesArePlain : Type 0
BroughtSidesArePlain =
    (names : List IncludeName) (from into : ℕ) (types : List TypeDef) (world : World) (b : Included) → IsIncluded names from into types world b → ArePlainChanges names
    → AreSidesPlain world.imports.entries world.exports.entries → AreSidesPlain b.imports.items b.exports.items

-- both sides of a world with all that it includes are named
pub record AreSidesNamed (imports exports : List (WorldKey × WorldItem)) : Type 0 where
  pub imports_named : IsSideNamed imports
  pub exports_named : IsSideNamed exports

abbrev pub JoinedSidesAreNamed : Type 0
JoinedSidesAreNamed =
    (worlds : List World) (id owner : ℕ) (m : MovedWorld) (old new : List TypeDef) (w : World) → IsJoinedWorld worlds id owner m old new w → AreChangesPlain m.includes.items
    → Each (λ (v : World). AreSidesPlain v.imports.entries v.exports.entries) worlds → AreSidesPlain m.imports.items m.exports.items → AreSidesNamed w.imports.entries w.exports.entries
