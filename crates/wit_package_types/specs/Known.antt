-- What `use` finds.
use Rattle.std.specs.Prelude.{◌≡◌, ℕ, List, [], ◌∷◌, ◌++◌, Some, slice_get}
use Rattle.name_places.specs.FirstPlaces.{place_of}
use Rattle.wit_types.specs.Passed.wit_words-Slice.{Slice}
use Rattle.wit_rules.specs.Passed.wit_scopes-Paths.{TargetTree, own, foreign}
use Rattle.wit_arena.specs.Tree.{Name}
use Rattle.wit_arena.specs.Table.{Entries}
use Rattle.wit_arena.specs.Meaning.{Has}
use Rattle.wit_package_types.specs.Foreign.{ForeignName, foreign_name}

-- interfaces of the package by name, each with its types, and types of other packages
pub record KnownTypes : Type 0 where
  pub names : List Name
  pub tables : List Entries
  pub foreign : List (ForeignName × ℕ)

-- and one interface more
abbrev pub with_interface : KnownTypes → Name → Entries → KnownTypes
with_interface k x t = record { names = k.names ++ x ∷ []; tables = k.tables ++ t ∷ []; foreign = k.foreign }

-- the first interface of that name has the type under that name
pub record FindsOwn (k : KnownTypes) (i y : Name) (type_id : ℕ) : Type 0 where
  pub place : ℕ
  pub first : place_of i k.names ≡ Some place
  pub table : Entries
  pub there : slice_get k.tables place ≡ Some table
  pub entry : Has table (y, type_id)

-- what a `use` of y takes from where the path leads
abbrev pub Finds : KnownTypes → TargetTree → Slice → ℕ → Type 0
Finds k (own i) y = FindsOwn k i.text y.text
Finds k (foreign p i) y = λ type_id. Has k.foreign (foreign_name p i y, type_id)
