-- Worlds in an arena, as the text has them (WIT, Item: `world`).
use Rattle.std.specs.Prelude.{◌≡◌, ℕ, ◌+◌, List, ◌++◌, map, Some, None, length, slice_get, string_bytes}
use Rattle.wit_items.specs.ItemTree.{FuncTree}
use Rattle.wit_syntax.specs.Ast.{IncludeNameTree}
use Rattle.wit_types.specs.declared.function.Function.{Function}
use Rattle.wit_types.specs.declared.interface.TypeDef.{TypeDef}
use Rattle.wit_types.specs.declared.interface.TypeOwner.TheVariants as belongs
use Rattle.wit_types.specs.declared.stability.Stability.{Stability}
use Rattle.wit_types.specs.declared.world.World.{World}
use Rattle.wit_types.specs.declared.world.WorldItem.{WorldItem}
use Rattle.wit_types.specs.declared.world.WorldItem.TheVariants as item
use Rattle.wit_types.specs.declared.world.WorldInclude.{WorldInclude}
use Rattle.wit_types.specs.declared.world.IncludeName.{IncludeName}
use Rattle.wit_types.specs.declared.world_key.WorldKey.{WorldKey}
use Rattle.wit_types.specs.WorldKey.{Known, spelled, placed, known}
use Rattle.wit_scopes.specs.declared.worlds.Side.TheVariants.{Import, Export}
use Rattle.wit_scopes.specs.Paths.{TargetTree, own, foreign}
use Rattle.wit_scopes.specs.Members.{MemberTree, function}
use Rattle.wit_scopes.specs.Scopes as scope
use Rattle.wit_scopes.specs.Scopes.{ExternKind, ListedTree, IncludedTree, WorldMemberTree, WorldScope}
use Rattle.wit_foreign.specs.Passed.wit_rules-Labels.{full_name}
use Rattle.wit_resolved_scopes.specs.Passed.wit_orders-Needs.{types_of, AreSorted}
use Rattle.wit_arena.specs.Tree.{Name, PackageText, Place, in_interface, in_world, in_listed, Owner}
use Rattle.wit_arena.specs.Table.{Entries}
use Rattle.wit_arena.specs.Docs.{said, contents_of}
use Rattle.wit_arena.specs.Meaning.{package_text}
use Rattle.wit_foreign.specs.Passed.wit_package_types-Stability.{IsStabilityOf}
use Rattle.wit_resolved_scopes.specs.Each.{Each}
use Rattle.wit_resolved_scopes.specs.InArena.{Context, own_owner, IsTypeIn, IsFunctionIn}
use Rattle.wit_resolved_scopes.specs.Texts.{own_members, side_members, includes_of}

-- what a world imports or exports, by what it is known by
abbrev pub Entry : Type 0
Entry = WorldKey × WorldItem

-- whose something is that a path names
abbrev pub target_owner : PackageText → (Name → Place) → TargetTree → Owner
target_owner me at (own n) = record { package_text = me; place = at n.text }
target_owner me at (foreign p n) = record { package_text = package_text p; place = at n.text }

-- a function that a world imports or exports, as a member of it
abbrev pub function_member : ListedTree → FuncTree → MemberTree
function_member l f = record { name = l.name; kind = function f; docs = l.docs; attributes = l.attributes; span = l.span }

-- ---- what stands for an import or an export

-- for a type of the world: the type, under its name
pub record IsTypeEntry (a : List TypeDef) (t : Name × ℕ) (e : Entry) : Type 0 where
  pub key : known e.0 ≡ spelled t.0
  pub def : TypeDef
  pub there : slice_get a t.1 ≡ Some def
  pub item : e.1 ≡ item.TypeItem t.1 def.span

-- for a function: the function, under its full name
pub record IsFunctionEntry (c : Context) (o : Place) (a : List TypeDef) (table : Entries) (m : MemberTree) (e : Entry) : Type 0 where
  pub key : known e.0 ≡ spelled (full_name m.kind m.name)
  pub made : Function
  pub item : e.1 ≡ item.Function made
  pub is : IsFunctionIn c o a table m made

-- for an interface: the one that belongs to that owner, with the gates in front of it here
pub record IsInterfaceEntry (c : Context) (w : Owner) (l : ListedTree) (key_of : ℕ → Known) (e : Entry) : Type 0 where
  pub id : ℕ
  pub stability : Stability
  pub key : known e.0 ≡ key_of id
  pub item : e.1 ≡ item.Interface id stability l.name.span
  pub owner : slice_get c.owners.interfaces id ≡ Some w
  pub gates : IsStabilityOf l.attributes stability

-- a function and an interface that stands in the world are known by their labels, what a path names by its id
abbrev pub IsExternEntry : Context → Name → List TypeDef → Entries → ListedTree → ExternKind → Entry → Type 0
IsExternEntry c w a table l (scope.ExternKind.function f) e = IsFunctionEntry c (in_world w) a table (function_member l f) e
IsExternEntry c w a table l (scope.ExternKind.interface ms) e = IsInterfaceEntry c (own_owner c (in_listed w l.side l.name.text)) l (λ id. spelled l.name.text) e
IsExternEntry c w a table l (scope.item t) e = IsInterfaceEntry c (target_owner c.me in_interface t) l placed e

abbrev pub IsEntryOf : Context → Name → List TypeDef → Entries → WorldMemberTree → Entry → Type 0
IsEntryOf c w a table (scope.member m) e = IsFunctionEntry c (in_world w) a table m e
IsEntryOf c w a table (scope.listed l) e = IsExternEntry c w a table l l.kind e
IsEntryOf c w a table (scope.included i) e = ⊥

-- ---- what stands for an `include`

abbrev pub written_name : IncludeNameTree → Name × Name
written_name n = (n.name.text, n.other.text)

abbrev pub include_name : IncludeName → Name × Name
include_name n = (string_bytes n.name, string_bytes n.as_)

-- the world that belongs to what the path names, with the gates in front and the names that change
pub record IsIncludeOf (c : Context) (i : IncludedTree) (d : WorldInclude) : Type 0 where
  pub owner : slice_get c.owners.worlds d.id ≡ Some (target_owner c.me in_world i.world)
  pub stability : IsStabilityOf i.attributes d.stability
  pub names : map include_name d.names.items ≡ map written_name i.names
  pub span : d.span ≡ i.span

-- ---- worlds

-- what stands on the sides of a world and what it includes, in the order of the text, where its types are these
pub record AreLists (c : Context) (w : WorldScope) (a : List TypeDef) (table : Entries) (imports exports : List Entry) (includes : List WorldInclude) : Type 0 where
  pub imports_are : Each (IsEntryOf c w.name.text a table) (side_members Import w.members) imports
  pub exports_are : Each (IsEntryOf c w.name.text a table) (side_members Export w.members) exports
  pub includes_are : Each (IsIncludeOf c) (includes_of w.members) includes

-- a world, of which the same is said as in the text; its types come first among its imports, each behind those that it names and in the least of such orders
pub record IsWorldIn (c : Context) (a : List TypeDef) (w : WorldScope) (id : ℕ) (d : World) : Type 0 where
  pub name : string_bytes d.name ≡ w.name.text
  pub table : Entries
  pub sorted : List MemberTree
  pub are_sorted : AreSorted (types_of (own_members w.members)) sorted
  pub types_are : Each (IsTypeIn c (in_world w.name.text) (belongs.World id) a) sorted table
  pub type_entries : List Entry
  pub type_entries_are : Each (IsTypeEntry a) table type_entries
  pub other_imports : List Entry
  pub imports_are : d.imports.entries ≡ type_entries ++ other_imports
  pub lists_are : AreLists c w a table other_imports d.exports.entries d.includes.items
  pub docs : contents_of d.docs ≡ said w.docs
  pub stability : IsStabilityOf w.attributes d.stability
  pub loose : d.«package» ≡ None
  pub span : d.span ≡ w.name.span

-- one for each text, with rising ids from that number on
pub record AreWorldsIn (c : Context) (a : List TypeDef) (first : ℕ) (ws : List WorldScope) (ds : List World) : Type 0 where
  pub so_many : length ds ≡ length ws
  pub each : (n : ℕ) (w : WorldScope) (d : World) → slice_get ws n ≡ Some w → slice_get ds n ≡ Some d → IsWorldIn c a w (first + n) d
