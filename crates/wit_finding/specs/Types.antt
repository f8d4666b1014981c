-- Where types that are asked for stand in a graph (WIT, Use).
use Rattle.std.specs.Prelude.{◌≡◌, ◌<◌, ℕ, List, Option, Some, None, String, length, slice_get, string_bytes, bytes_eq}
use Rattle.std.specs.declared.alloc.Global.{Global}
use Rattle.indexmap.specs.IndexMap.{get_by}
use Rattle.wit_moves.specs.Passed.wit_types-declared-interface-Interface.{Interface}
use Rattle.wit_moves.specs.Passed.wit_types-declared-interface-TypeDef.{TypeDef}
use Rattle.wit_moves.specs.Passed.wit_types-declared-interface-TypeOwner.{TypeOwner}
use Rattle.wit_moves.specs.Passed.wit_types-declared-interface-TypeOwner-TheVariants as belongs
use Rattle.wit_moves.specs.Moved.{Places, place_of}

-- the type of that name, of an interface
abbrev pub type_in : Option Interface → Option (String Global) → Option ℕ
type_in None x = None
type_in (Some d) None = None
type_in (Some d) (Some x) = get_by (λ (n : String Global). bytes_eq (string_bytes x) (string_bytes n)) d.types

-- the interface that a place is of
abbrev pub interface_at : List Interface → Option ℕ → Option Interface
interface_at interfaces None = None
interface_at interfaces (Some i) = slice_get interfaces i

abbrev pub interface_of : List Interface → Places → TypeOwner → Option Interface
interface_of interfaces places (belongs.Interface i) = interface_at interfaces (place_of places i)
interface_of interfaces places (belongs.World w) = None
interface_of interfaces places belongs.None = None

-- where a type stands that is asked of an interface: the one of its name in the interface where that stands
abbrev pub type_found : List Interface → Places → TypeDef → Option ℕ
type_found interfaces places d = type_in (interface_of interfaces places d.owner) d.name

-- interfaces stand among these
abbrev pub AreWithin : List Interface → Places → Type 0
AreWithin interfaces places = (i j : ℕ) → place_of places i ≡ Some j → j < length interfaces
