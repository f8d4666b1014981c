-- What a package asks of other packages (WIT, Use, Item: `world`).
use Rattle.std.specs.Prelude.{◌≡◌, List, [], ◌∷◌, flat_map, Option, Some, None}
use Rattle.wit_words.specs.Slice.{Slice}
use Rattle.wit_lookups.specs.Passed.wit_items-ItemTree.{AttributeTree}
use Rattle.wit_lookups.specs.Passed.wit_syntax-Ast.{PackageNameTree}
use Rattle.wit_lookups.specs.Passed.wit_scopes-Paths.{TargetTree, own, foreign}
use Rattle.wit_lookups.specs.Passed.wit_scopes-Members.{MemberKind, MemberTree, used, defined, function, method, static, constructor}
use Rattle.wit_lookups.specs.Passed.wit_scopes-Scopes as scope
use Rattle.wit_lookups.specs.Passed.wit_scopes-Scopes.{ExternKind, WorldMemberTree, ItemScope}
use Rattle.wit_lookups.specs.declared.asks.Asked.{Asked}
use Rattle.wit_lookups.specs.declared.asks.Asked.TheVariants.{Interface, World}
use Rattle.wit_package_types.specs.Passed.wit_arena-Meaning.{Has}

-- an interface or a world of another package, and the type that is used from it, by its name there, with what stands in front of what asks for it
pub record NeedTree : Type 0 where
  pub «package» : PackageNameTree
  pub item : Slice
  pub asked : Asked
  pub name : Option Slice
  pub attributes : List AttributeTree

abbrev pub path_needs : Asked → Option Slice → List AttributeTree → TargetTree → List NeedTree
path_needs asked name attributes (own n) = []
path_needs asked name attributes (foreign p n) = record { «package» = p; item = n; asked = asked; name = name; attributes = attributes } ∷ []

-- a `use` asks for an interface and a type of it
abbrev pub kind_needs : List AttributeTree → MemberKind → List NeedTree
kind_needs attributes (used t y) = path_needs Interface (Some y) attributes t
kind_needs attributes (defined k) = []
kind_needs attributes (function f) = []
kind_needs attributes (method r f) = []
kind_needs attributes (static r f) = []
kind_needs attributes (constructor r ps t) = []

abbrev pub member_needs : MemberTree → List NeedTree
member_needs m = kind_needs m.attributes m.kind

abbrev pub extern_needs : List AttributeTree → ExternKind → List NeedTree
extern_needs attributes (scope.ExternKind.function f) = []
extern_needs attributes (scope.ExternKind.interface ms) = flat_map member_needs ms
extern_needs attributes (scope.item t) = path_needs Interface None attributes t

-- an import or export of a path asks for an interface, an `include` for a world
abbrev pub world_member_needs : WorldMemberTree → List NeedTree
world_member_needs (scope.member m) = member_needs m
world_member_needs (scope.listed l) = extern_needs l.attributes l.kind
world_member_needs (scope.included i) = path_needs World None i.attributes i.world

abbrev pub item_needs : ItemScope → List NeedTree
item_needs (scope.ItemScope.interface i) = flat_map member_needs i.members
item_needs (scope.world w) = flat_map world_member_needs w.members

-- what interfaces and worlds ask for, in the order of the text
abbrev pub needs_in : List ItemScope → List NeedTree
needs_in scopes = flat_map item_needs scopes

-- types are used of interfaces
abbrev pub AreUses : List NeedTree → Type 0
AreUses needs = (n : NeedTree) (y : Slice) → Has needs n → n.name ≡ Some y → n.asked ≡ Interface
