-- Names that aren't there, or that are of another kind than their places ask (WIT, Name Resolution).
use Rattle.std.specs.Prelude.{◌≡◌, ◌≢◌, ℕ, ◌<◌, List, [], ◌∷◌, ◌++◌, map, flat_map, Option, Some, None, slice_get, if◌then◌else◌}
use Rattle.wit_type_names.specs.Passed.wit_words-declared-source_map-Span.{Span}
use Rattle.wit_type_names.specs.Passed.wit_words-Slice.{Slice}
use Rattle.wit_type_names.specs.Passed.wit_syntax-Ast.{PackageNameTree, ToplevelUseTree}
use Rattle.wit_type_names.specs.Passed.wit_scopes-Paths.{TargetTree, own, foreign, by_itself, item_uses}
use Rattle.wit_type_names.specs.Passed.wit_scopes-Members.{MemberKind, MemberTree, used, defined, function, method, static, constructor}
use Rattle.wit_type_names.specs.Passed.wit_scopes-Scopes as scope
use Rattle.wit_type_names.specs.Passed.wit_scopes-Scopes.{ExternKind, ListedTree, WorldMemberTree, InterfaceScope, WorldScope, ItemScope}
use Rattle.wit_type_names.specs.TypeNames.{names_in_func, names_in_member}
use Rattle.wit_rules.specs.declared.fault.PackageRule.{PackageRule}
use Rattle.wit_rules.specs.declared.fault.PackageRule.TheVariants.{NameNotFound, WrongKind}
use Rattle.wit_rules.specs.Breaks.{Breaks, AnyBreaks}
use Rattle.wit_rules.specs.Labels.{target_text}
use Rattle.wit_lookups.specs.declared.found.Found.{Found}
use Rattle.wit_lookups.specs.declared.found.Found.TheVariants.{There, OfAnotherKind, Missing}
use Rattle.wit_lookups.specs.declared.asks.Asked.{Asked}
use Rattle.wit_lookups.specs.declared.asks.Asked.TheVariants.{Interface, World}
use Rattle.wit_lookups.specs.Names.{Name, has, type_names, other_names, world_type_names, world_other_names, known_at, item_file, known_names, item_names, item_of}

-- ---- what is found under a name

abbrev pub found_interface : Option ItemScope → Found
found_interface None = Missing
found_interface (Some (scope.ItemScope.interface i)) = There
found_interface (Some (scope.world w)) = OfAnotherKind

abbrev pub found_world : Option ItemScope → Found
found_world None = Missing
found_world (Some (scope.ItemScope.interface i)) = OfAnotherKind
found_world (Some (scope.world w)) = There

abbrev pub found_item : Option ItemScope → Found
found_item None = Missing
found_item (Some s) = There

-- where a type is asked for, these are the types, and these are known there besides
abbrev pub found_type : List Name → List Name → Name → Found
found_type types others x = if has types x then There else if has others x then OfAnotherKind else Missing

-- a break at the name, where it isn't found
abbrev pub NameBreaks : Found → Slice → Breaks
NameBreaks There x rule at = ⊥
NameBreaks OfAnotherKind x rule at = (rule ≡ WrongKind) × (x.span ≡ at)
NameBreaks Missing x rule at = (rule ≡ NameNotFound) × (x.span ≡ at)

-- of a path, where it names something of the own package; what others have isn't known here
abbrev pub PathBreaks : (Option ItemScope → Found) → List ItemScope → TargetTree → Breaks
PathBreaks found scopes (own n) = NameBreaks (found (item_of scopes n.text)) n
PathBreaks found scopes (foreign p n) = λ rule at. ⊥

-- ---- members

-- no interface has a type of that name, where it has been found
abbrev pub TypeOfItemBreaks : Option ItemScope → Slice → Breaks
TypeOfItemBreaks None y = λ rule at. ⊥
TypeOfItemBreaks (Some (scope.ItemScope.interface i)) y = NameBreaks (found_type (type_names i.members) (other_names i.members) y.text) y
TypeOfItemBreaks (Some (scope.world w)) y = λ rule at. ⊥

abbrev pub UsedTypeBreaks : List ItemScope → TargetTree → Slice → Breaks
UsedTypeBreaks scopes (own n) y = TypeOfItemBreaks (item_of scopes n.text) y
UsedTypeBreaks scopes (foreign p n) y = λ rule at. ⊥

-- use path.{y}: the path names no interface, or the interface has no such type
pub data UseBreaks (scopes : List ItemScope) (from : TargetTree) (y : Slice) (rule : PackageRule) (at : Span) : Type 0 where
  by_path : PathBreaks found_interface scopes from rule at → UseBreaks scopes from y rule at
  by_name : UsedTypeBreaks scopes from y rule at → UseBreaks scopes from y rule at

-- types are named among which one isn't found
abbrev pub TypesBreak : List Name → List Name → List Slice → Breaks
TypesBreak types others names = AnyBreaks (λ x. NameBreaks (found_type types others x.text) x) names

abbrev pub MemberKindBreaks : List ItemScope → List Name → List Name → MemberKind → Breaks
MemberKindBreaks scopes types others (used t y) = UseBreaks scopes t y
MemberKindBreaks scopes types others (defined k) = TypesBreak types others (names_in_member (defined k))
MemberKindBreaks scopes types others (function f) = TypesBreak types others (names_in_member (function f))
MemberKindBreaks scopes types others (method r f) = TypesBreak types others (names_in_member (method r f))
MemberKindBreaks scopes types others (static r f) = TypesBreak types others (names_in_member (static r f))
MemberKindBreaks scopes types others (constructor r ps t) = TypesBreak types others (names_in_member (constructor r ps t))

abbrev pub MembersBreak : List ItemScope → List Name → List Name → List MemberTree → Breaks
MembersBreak scopes types others ms = AnyBreaks (λ m. MemberKindBreaks scopes types others m.kind) ms

-- ---- interfaces and worlds

-- what is known in a scope besides its types: what else it declares, and the names of its file and of the package
abbrev pub known_besides : List ItemScope → List Name → List Name → List Name
known_besides scopes known others = others ++ known ++ item_names scopes

-- the members of an interface see its types alone
abbrev pub OwnMembersBreak : List ItemScope → List Name → List MemberTree → Breaks
OwnMembersBreak scopes known ms = MembersBreak scopes (type_names ms) (known_besides scopes known (other_names ms)) ms

abbrev pub ExternBreaks : List ItemScope → List Name → List Name → List Name → ExternKind → Breaks
ExternBreaks scopes known types others (scope.ExternKind.function f) = TypesBreak types others (names_in_func f)
ExternBreaks scopes known types others (scope.ExternKind.interface ms) = OwnMembersBreak scopes known ms
ExternBreaks scopes known types others (scope.item t) = PathBreaks found_interface scopes t

abbrev pub WorldMemberBreaks : List ItemScope → List Name → List Name → List Name → WorldMemberTree → Breaks
WorldMemberBreaks scopes known types others (scope.member m) = MemberKindBreaks scopes types others m.kind
WorldMemberBreaks scopes known types others (scope.listed l) = ExternBreaks scopes known types others l.kind
WorldMemberBreaks scopes known types others (scope.included i) = PathBreaks found_world scopes i.world

-- a world, in whose file these names are known
abbrev pub WorldBreaks : List ItemScope → List Name → WorldScope → Breaks
WorldBreaks scopes known w = AnyBreaks (WorldMemberBreaks scopes known (world_type_names w.members) (known_besides scopes known (world_other_names w.members))) w.members

abbrev pub ItemBreaks : List ItemScope → List Name → ItemScope → Breaks
ItemBreaks scopes known (scope.ItemScope.interface i) = OwnMembersBreak scopes known i.members
ItemBreaks scopes known (scope.world w) = WorldBreaks scopes known w

-- interfaces and worlds, where these names are known in each file
abbrev pub ItemsBreak : List ItemScope → List (List Name) → Breaks
ItemsBreak scopes known = AnyBreaks (λ s. ItemBreaks scopes (known_at known (item_file s)) s) scopes

-- ---- files

-- use path; at the top of a file: an interface or a world
abbrev pub TopUseBreaks : PackageNameTree → List ItemScope → ToplevelUseTree → Breaks
TopUseBreaks me scopes u = PathBreaks found_item scopes (by_itself me u.item)

abbrev pub FileBreaks : PackageNameTree → List ItemScope → List ToplevelUseTree → Breaks
FileBreaks me scopes us = AnyBreaks (TopUseBreaks me scopes) us

-- ---- names of other packages

-- what of another package is asked for, as what, and where
pub record AskTree : Type 0 where
  pub text : Name
  pub asked : Asked
  pub span : Span

abbrev pub path_asks : Asked → TargetTree → List AskTree
path_asks asked (own n) = []
path_asks asked (foreign p n) = record { text = target_text (foreign p n); asked = asked; span = n.span } ∷ []

-- a `use` asks for an interface
abbrev pub kind_asks : MemberKind → List AskTree
kind_asks (used t y) = path_asks Interface t
kind_asks (defined k) = []
kind_asks (function f) = []
kind_asks (method r f) = []
kind_asks (static r f) = []
kind_asks (constructor r ps t) = []

abbrev pub member_asks : MemberTree → List AskTree
member_asks m = kind_asks m.kind

abbrev pub extern_asks : ExternKind → List AskTree
extern_asks (scope.ExternKind.function f) = []
extern_asks (scope.ExternKind.interface ms) = flat_map member_asks ms
extern_asks (scope.item t) = path_asks Interface t

-- an import or export of a path asks for an interface, an `include` for a world
abbrev pub world_member_asks : WorldMemberTree → List AskTree
world_member_asks (scope.member m) = member_asks m
world_member_asks (scope.listed l) = extern_asks l.kind
world_member_asks (scope.included i) = path_asks World i.world

abbrev pub item_asks : ItemScope → List AskTree
item_asks (scope.ItemScope.interface i) = flat_map member_asks i.members
item_asks (scope.world w) = flat_map world_member_asks w.members

abbrev pub asks_in : List ItemScope → List AskTree
asks_in scopes = flat_map item_asks scopes

-- something is asked for as an interface and as a world: a break at the later of the two
pub record AsksBreak (asks : List AskTree) (rule : PackageRule) (at : Span) : Type 0 where
  pub rule_is : rule ≡ WrongKind
  pub place : ℕ
  pub earlier : ℕ
  pub before : earlier < place
  pub one : AskTree
  pub other : AskTree
  pub there : slice_get asks place ≡ Some one
  pub there_before : slice_get asks earlier ≡ Some other
  pub same : one.text ≡ other.text
  pub differs : one.asked ≢ other.asked
  pub stands : one.span ≡ at

-- ---- packages

-- the interfaces and worlds of a package of that name, and its files: a name of one of them isn't found, or is asked for as two things
pub data LookupsBreak (me : PackageNameTree) (uses : List (List ToplevelUseTree)) (scopes : List ItemScope) (rule : PackageRule) (at : Span) : Type 0 where
  by_item : ItemsBreak scopes (map known_names uses) rule at → LookupsBreak me uses scopes rule at
  by_file : AnyBreaks (FileBreaks me scopes) uses rule at → LookupsBreak me uses scopes rule at
  by_asks : AsksBreak (asks_in scopes) rule at → LookupsBreak me uses scopes rule at
