-- The interfaces and worlds of a package as the text has them (WIT, Item: `interface`, Item: `world`).
use Rattle.std.specs.Prelude.{◌≡◌, ℕ, List, [], ◌∷◌, ◌++◌, map, flat_map, Option, Some, None, slice_get}
use Rattle.wit_words.specs.declared.source_map.Span.{Span}
use Rattle.wit_words.specs.Slice.{Slice}
use Rattle.wit_lookups.specs.Passed.wit_items-ItemTree.{AttributeTree}
use Rattle.wit_lookups.specs.Passed.wit_scopes-declared-worlds-Side.{Side}
use Rattle.wit_lookups.specs.Passed.wit_scopes-declared-worlds-Side-TheVariants.{Import, Export}
use Rattle.wit_lookups.specs.Passed.wit_scopes-Members.{MemberTree, function}
use Rattle.wit_lookups.specs.Passed.wit_scopes-Scopes as scope
use Rattle.wit_lookups.specs.Passed.wit_scopes-Scopes.{ExternKind, ListedTree, IncludedTree, WorldMemberTree, InterfaceScope, WorldScope, ItemScope}
use Rattle.wit_lookups.specs.Passed.wit_rules-Labels.{full_name, target_text}
use Rattle.wit_orders.specs.Needs.{item_entry, IsOrderOf}
use Rattle.wit_resources.specs.Passed.wit_arena-Tree.{Name, Place, in_interface, in_listed}
use Rattle.wit_resolved_scopes.specs.Scope.{function_of}

-- ---- interfaces and worlds in their order

abbrev pub interface_of : ItemScope → List InterfaceScope
interface_of (scope.ItemScope.interface i) = i ∷ []
interface_of (scope.world w) = []

abbrev pub world_of : ItemScope → List WorldScope
world_of (scope.ItemScope.interface i) = []
world_of (scope.world w) = w ∷ []

abbrev pub interfaces_of : List ItemScope → List InterfaceScope
interfaces_of scopes = flat_map interface_of scopes

abbrev pub worlds_of : List ItemScope → List WorldScope
worlds_of scopes = flat_map world_of scopes

-- each behind those that it needs, in the least of such orders by position
abbrev pub AreItemsSorted : List ItemScope → List ItemScope → Type 0
AreItemsSorted scopes sorted = (order : List ℕ) × IsOrderOf (map item_entry scopes) order × (map (slice_get scopes) order ≡ map (λ s. Some s) sorted)

-- ---- interfaces

-- an interface that has a name in its package, or stands in a world under a label
pub record InterfaceText : Type 0 where
  pub place : Place
  pub name : Option Name
  pub members : List MemberTree
  pub docs : List Slice
  pub attributes : List AttributeTree
  pub span : Span

abbrev pub interface_text : InterfaceScope → InterfaceText
interface_text i = record { place = in_interface i.name.text; name = Some i.name.text; members = i.members; docs = i.docs; attributes = i.attributes; span = i.name.span }

abbrev pub listed_text : Name → ListedTree → List MemberTree → InterfaceText
listed_text w l ms = record { place = in_listed w l.side l.name.text; name = None; members = ms; docs = l.docs; attributes = l.attributes; span = l.name.span }

abbrev pub extern_texts : Name → ListedTree → ExternKind → List InterfaceText
extern_texts w l (scope.ExternKind.function f) = []
extern_texts w l (scope.ExternKind.interface ms) = listed_text w l ms ∷ []
extern_texts w l (scope.item t) = []

abbrev pub member_texts : Name → WorldMemberTree → List InterfaceText
member_texts w (scope.member m) = []
member_texts w (scope.listed l) = extern_texts w l l.kind
member_texts w (scope.included i) = []

-- those that stand in a world, in the order of the text
abbrev pub labelled_texts : WorldScope → List InterfaceText
labelled_texts w = flat_map (member_texts w.name.text) w.members

-- all of a package: those that have names, and behind them those that stand in its worlds
abbrev pub interface_texts : List ItemScope → List InterfaceText
interface_texts sorted = map interface_text (interfaces_of sorted) ++ flat_map labelled_texts (worlds_of sorted)

-- ---- worlds

-- a function that a world imports or exports, as a member
abbrev pub listed_member : ListedTree → ExternKind → List MemberTree
listed_member l (scope.ExternKind.function f) = record { name = l.name; kind = function f; docs = l.docs; attributes = l.attributes; span = l.span } ∷ []
listed_member l (scope.ExternKind.interface ms) = []
listed_member l (scope.item t) = []

abbrev pub own_member : WorldMemberTree → List MemberTree
own_member (scope.member m) = m ∷ []
own_member (scope.listed l) = listed_member l l.kind
own_member (scope.included i) = []

-- the types of a world with their functions, and the functions that it imports and exports
abbrev pub own_members : List WorldMemberTree → List MemberTree
own_members ms = flat_map own_member ms

-- what stands on a side: imports and exports as they say, functions of resources are imports; types stand apart
abbrev pub at_side : Side → Side → WorldMemberTree → List WorldMemberTree
at_side Import Import x = x ∷ []
at_side Import Export x = []
at_side Export Import x = []
at_side Export Export x = x ∷ []

abbrev pub side_member : Side → WorldMemberTree → List WorldMemberTree
side_member side (scope.member m) = flat_map (λ f. at_side side Import (scope.member f)) (function_of m.kind m)
side_member side (scope.listed l) = at_side side l.side (scope.listed l)
side_member side (scope.included i) = []

abbrev pub side_members : Side → List WorldMemberTree → List WorldMemberTree
side_members side ms = flat_map (side_member side) ms

-- the worlds that it includes
abbrev pub included_in : WorldMemberTree → List IncludedTree
included_in (scope.member m) = []
included_in (scope.listed l) = []
included_in (scope.included i) = i ∷ []

abbrev pub includes_of : List WorldMemberTree → List IncludedTree
includes_of ms = flat_map included_in ms

-- what something is known by in a world: a plain name, or what a path names
pub data KeyText : Type 0 where
  plain : Name → KeyText
  path : Name → KeyText

abbrev pub extern_key : Slice → ExternKind → KeyText
extern_key x (scope.ExternKind.function f) = plain x.text
extern_key x (scope.ExternKind.interface ms) = plain x.text
extern_key x (scope.item t) = path (target_text t)

abbrev pub key_text : WorldMemberTree → KeyText
key_text (scope.member m) = plain (full_name m.kind m.name)
key_text (scope.listed l) = extern_key l.name l.kind
key_text (scope.included i) = plain []
