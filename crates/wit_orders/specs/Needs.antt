-- What needs what in a package: types by their definitions, interfaces by `use`, worlds by `include` (WIT, Items).
use Rattle.std.specs.Prelude.{◌≡◌, ℕ, List, [], ◌∷◌, map, flat_map, Some, slice_get, length}
use Rattle.name_places.specs.FirstPlaces.{place_of}
use Rattle.wit_order.specs.Order.{Has, IsOnCircle, IsLeastOrder}
use Rattle.wit_words.specs.declared.source_map.Span.{Span}
use Rattle.wit_words.specs.Slice.{Slice}
use Rattle.wit_type_names.specs.Passed.wit_scopes-Paths.{TargetTree, own, foreign}
use Rattle.wit_type_names.specs.Passed.wit_scopes-Members.{MemberKind, MemberTree, used, defined, function, method, static, constructor}
use Rattle.wit_type_names.specs.Passed.wit_scopes-Scopes as scope
use Rattle.wit_type_names.specs.Passed.wit_scopes-Scopes.{WorldMemberTree, ItemScope}
use Rattle.wit_type_names.specs.TypeNames.{names_in_member}
use Rattle.wit_rules.specs.declared.fault.PackageRule.{PackageRule}
use Rattle.wit_rules.specs.declared.fault.PackageRule.TheVariants.{Cycle}
use Rattle.wit_rules.specs.Labels.{scope_name}

abbrev pub Name : Type 0
Name = List ℕ

-- something that has a name, and what it names
pub record Entry : Type 0 where
  pub label : Slice
  pub needs : List Slice

abbrev pub labels : List Entry → List Name
labels es = map (λ e. e.label.text) es

-- the first names the second
pub record NeedsIn (es : List Entry) (i j : ℕ) : Type 0 where
  pub one : Entry
  pub there : slice_get es i ≡ Some one
  pub name : Slice
  pub named : Has one.needs name
  pub place : place_of name.text (labels es) ≡ Some j

-- one leads back to itself: a break at its name
pub record CircleBreaks (es : List Entry) (rule : PackageRule) (at : Span) : Type 0 where
  pub rule_is : rule ≡ Cycle
  pub place : ℕ
  pub one : Entry
  pub there : slice_get es place ≡ Some one
  pub circle : IsOnCircle (length es) (NeedsIn es) place
  pub stands : one.label.span ≡ at

-- each behind all that it needs, and of all such orders the least by position
abbrev pub IsOrderOf : List Entry → List ℕ → Type 0
IsOrderOf es order = IsLeastOrder (length es) (NeedsIn es) order

-- ---- types

-- a type that is used or defined
abbrev pub type_of : MemberKind → MemberTree → List MemberTree
type_of (used t n) m = m ∷ []
type_of (defined k) m = m ∷ []
type_of (function f) m = []
type_of (method r f) m = []
type_of (static r f) m = []
type_of (constructor r ps t) m = []

abbrev pub member_type : MemberTree → List MemberTree
member_type m = type_of m.kind m

-- the types of an interface
abbrev pub types_of : List MemberTree → List MemberTree
types_of ms = flat_map member_type ms

abbrev pub world_member_type : WorldMemberTree → List MemberTree
world_member_type (scope.member m) = member_type m
world_member_type (scope.listed l) = []
world_member_type (scope.included i) = []

-- the own types of a world
abbrev pub world_types : List WorldMemberTree → List MemberTree
world_types ms = flat_map world_member_type ms

-- a definition needs the types that it names; a name that is used needs none of its own scope
abbrev pub type_entry : MemberTree → Entry
type_entry m = record { label = m.name; needs = names_in_member m.kind }

-- the members at these places
abbrev pub AreAt : List MemberTree → List ℕ → List MemberTree → Type 0
AreAt ms places found = map (slice_get ms) places ≡ map (λ m. Some m) found

-- the types of a scope in their order
abbrev pub AreSorted : List MemberTree → List MemberTree → Type 0
AreSorted types sorted = (order : List ℕ) × IsOrderOf (map type_entry types) order × AreAt types order sorted

-- ---- interfaces and worlds

abbrev pub own_names : TargetTree → List Slice
own_names (own n) = n ∷ []
own_names (foreign p n) = []

abbrev pub used_item : MemberKind → List Slice
used_item (used t n) = own_names t
used_item (defined k) = []
used_item (function f) = []
used_item (method r f) = []
used_item (static r f) = []
used_item (constructor r ps t) = []

abbrev pub member_item : MemberTree → List Slice
member_item m = used_item m.kind

abbrev pub included_item : WorldMemberTree → List Slice
included_item (scope.member m) = []
included_item (scope.listed l) = []
included_item (scope.included i) = own_names i.world

-- an interface needs those from which it uses types, a world those that it includes
abbrev pub item_needs : ItemScope → List Slice
item_needs (scope.ItemScope.interface i) = flat_map member_item i.members
item_needs (scope.world w) = flat_map included_item w.members

abbrev pub item_entry : ItemScope → Entry
item_entry s = record { label = scope_name s; needs = item_needs s }
