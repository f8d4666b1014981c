-- The names of the scopes of a package: of types, of what is no type, of interfaces and worlds (WIT, Name Resolution).
use Rattle.std.specs.Prelude.{ℕ, zero, suc, Bool, List, [], ◌∷◌, map, flat_map, Option, option_and_then, slice_get, bytes_eq}
use Rattle.std.specs.List.{list_any}
use Rattle.name_places.specs.FirstPlaces.{place_of}
use Rattle.wit_type_names.specs.Passed.wit_syntax-Ast.{ToplevelUseTree}
use Rattle.wit_type_names.specs.Passed.wit_scopes-Paths.{known_name, file_item_uses}
use Rattle.wit_type_names.specs.Passed.wit_scopes-Members.{MemberKind, MemberTree, used, defined, function, method, static, constructor}
use Rattle.wit_type_names.specs.Passed.wit_scopes-Scopes as scope
use Rattle.wit_type_names.specs.Passed.wit_scopes-Scopes.{ListedTree, WorldMemberTree, ItemScope}
use Rattle.wit_rules.specs.Labels.{extern_labels, scope_name}

abbrev pub Name : Type 0
Name = List ℕ

-- the name is one of these
abbrev pub has : List Name → Name → Bool
has names x = list_any (bytes_eq x) names

-- ---- members

-- the name of a type; what is none has no such name
abbrev pub type_name : MemberKind → Name → List Name
type_name (used t n) x = x ∷ []
type_name (defined k) x = x ∷ []
type_name (function f) x = []
type_name (method r f) x = []
type_name (static r f) x = []
type_name (constructor r ps t) x = []

-- the name of a function that belongs to no resource
abbrev pub other_name : MemberKind → Name → List Name
other_name (used t n) x = []
other_name (defined k) x = []
other_name (function f) x = x ∷ []
other_name (method r f) x = []
other_name (static r f) x = []
other_name (constructor r ps t) x = []

abbrev pub member_type_name : MemberTree → List Name
member_type_name m = type_name m.kind m.name.text

abbrev pub member_other_name : MemberTree → List Name
member_other_name m = other_name m.kind m.name.text

abbrev pub type_names : List MemberTree → List Name
type_names ms = flat_map member_type_name ms

abbrev pub other_names : List MemberTree → List Name
other_names ms = flat_map member_other_name ms

-- ---- worlds

abbrev pub world_type_name : WorldMemberTree → List Name
world_type_name (scope.member m) = member_type_name m
world_type_name (scope.listed l) = []
world_type_name (scope.included i) = []

-- the label of an import or export
abbrev pub listed_names : ListedTree → List Name
listed_names l = map (λ n. n.text) (extern_labels l.kind l.name)

abbrev pub world_other_name : WorldMemberTree → List Name
world_other_name (scope.member m) = member_other_name m
world_other_name (scope.listed l) = listed_names l
world_other_name (scope.included i) = []

abbrev pub world_type_names : List WorldMemberTree → List Name
world_type_names ms = flat_map world_type_name ms

abbrev pub world_other_names : List WorldMemberTree → List Name
world_other_names ms = flat_map world_other_name ms

-- ---- files and packages

-- the names that `use` statements make known
abbrev pub known_names : List ToplevelUseTree → List Name
known_names us = map (λ u. (known_name u).text) us

-- those of the file of that number, of these of all files
abbrev pub known_at : List (List Name) → ℕ → List Name
known_at [] k = []
known_at (ns ∷ all) zero = ns
known_at (ns ∷ all) (suc k) = known_at all k

abbrev pub item_name : ItemScope → Name
item_name s = (scope_name s).text

-- the number of the file in which it stands
abbrev pub item_file : ItemScope → ℕ
item_file (scope.ItemScope.interface i) = i.file
item_file (scope.world w) = w.file

abbrev pub item_names : List ItemScope → List Name
item_names scopes = map item_name scopes

-- the types of an interface or a world
abbrev pub item_type_names : ItemScope → List Name
item_type_names (scope.ItemScope.interface i) = type_names i.members
item_type_names (scope.world w) = world_type_names w.members

abbrev pub item_place : List ItemScope → Name → Option ℕ
item_place scopes x = place_of x (item_names scopes)

-- the interface or world of that name
abbrev pub item_of : List ItemScope → Name → Option ItemScope
item_of scopes x = option_and_then (slice_get scopes) (item_place scopes x)
