-- Which results constructors may declare (WIT, Item: `resource`).
use Rattle.std.specs.Prelude.{Bool, false, ◌||◌, List, Option, Some, None, option_and_then, map, slice_get, bytes_eq}
use Rattle.name_places.specs.FirstPlaces.{place_of}
use Rattle.wit_rules.specs.Passed.wit_productions-TypeTree as written
use Rattle.wit_rules.specs.Passed.wit_productions-TypeTree.{TypeTree, TypeShape, TypeOption, standing, no_type, a_type}
use Rattle.wit_rules.specs.Passed.wit_items-ItemTree as item
use Rattle.wit_rules.specs.Passed.wit_items-ItemTree.{TypeDefKindTree}
use Rattle.wit_rules.specs.Passed.wit_scopes-Members.{MemberKind, MemberTree, used, defined, function, method, static, constructor}
use Rattle.wit_arena.specs.Tree.{Name}

-- resource, or own<resource>
abbrev pub shape_owns : Name → TypeShape → Bool
shape_owns r (written.named x) = bytes_eq r x.text
shape_owns r (written.own x) = bytes_eq r x.text
shape_owns r _ = false

abbrev pub part_owns : Name → TypeOption → Bool
part_owns r no_type = false
part_owns r (a_type (standing s sh)) = shape_owns r sh

-- result<resource>, or result<resource, error>
abbrev pub shape_results : Name → TypeShape → Bool
shape_results r (written.result ok err) = part_owns r ok
shape_results r _ = false

abbrev pub is_result_of : Name → TypeTree → Bool
is_result_of r (standing s sh) = shape_results r sh

-- type name = that;
abbrev pub kind_defines : Name → TypeDefKindTree → Bool
kind_defines r (item.alias t) = is_result_of r t
kind_defines r (item.fields fs) = false
kind_defines r (item.flags ls) = false
kind_defines r (item.labels ls) = false
kind_defines r (item.cases cs) = false
kind_defines r (item.resource fs) = false

abbrev pub member_defines : Name → Option MemberTree → Bool
member_defines r None = false
member_defines r (Some m) = kind_of_member m.kind
  where
    kind_of_member : MemberKind → Bool
    kind_of_member (used t n) = false
    kind_of_member (defined k) = kind_defines r k
    kind_of_member (function f) = false
    kind_of_member (method q f) = false
    kind_of_member (static q f) = false
    kind_of_member (constructor q ps t) = false

-- the type of that name among the types of a scope
abbrev pub type_named : List MemberTree → Name → Option MemberTree
type_named types x = option_and_then (slice_get types) (place_of x (map (λ m. m.name.text) types))

-- a name of the scope that directly defines that
abbrev pub name_defines : List MemberTree → Name → TypeShape → Bool
name_defines types r (written.named x) = member_defines r (type_named types x.text)
name_defines types r _ = false

abbrev pub is_constructed : List MemberTree → Name → TypeTree → Bool
is_constructed types r (standing s sh) = shape_results r sh || name_defines types r sh
