-- What a package names (WIT, Packages).
use Rattle.std.specs.Prelude.{◌≡◌, ℕ, suc, List, [], ◌∷◌, ◌++◌, Option, Some, None, String, map, option_map, string_bytes, bytes_eq}
use Rattle.std.specs.declared.alloc.Global.{Global}
use Rattle.semver.specs.Identifiers.{parts_of}
use Rattle.indexmap.specs.IndexMap.{insert_all}
use Rattle.wit_types.specs.declared.interface.Interface.{Interface}
use Rattle.wit_types.specs.declared.«package».PackageName.{PackageName}
use Rattle.wit_uses.specs.Passed.wit_plans-declared-moves-MovedWorld.{MovedWorld}

abbrev pub Pair : Type 0
Pair = List ℕ × ℕ

-- a name, by its bytes
abbrev pub by_bytes : String Global × ℕ → Pair
by_bytes e = (string_bytes e.0, e.1)

abbrev pub name_at : ℕ → Option (String Global) → List Pair
name_at i None = []
name_at i (Some x) = (string_bytes x, i) ∷ []

-- the interfaces that have names, from an id on, by them
abbrev pub interface_names : ℕ → List Interface → List Pair
interface_names i [] = []
interface_names i (d ∷ ds) = name_at i d.name ++ interface_names (suc i) ds

-- and worlds
abbrev pub world_names : ℕ → List MovedWorld → List Pair
world_names i [] = []
world_names i (m ∷ ms) = (string_bytes m.name, i) ∷ world_names (suc i) ms

-- a table of names; of one that stands again, the last
abbrev pub AreNames : List Pair → List (String Global × ℕ) → Type 0
AreNames pairs entries = map by_bytes entries ≡ insert_all bytes_eq [] pairs

pub record IsSameName (n m : PackageName) : Type 0 where
  pub namespace_is : string_bytes m.namespace ≡ string_bytes n.namespace
  pub name_is : string_bytes m.name ≡ string_bytes n.name
  pub version_is : option_map parts_of m.version ≡ option_map parts_of n.version
