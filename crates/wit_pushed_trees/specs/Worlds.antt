-- Worlds that mean, by what they have themselves, what their texts do (WIT, Item: `world`, Feature Gates, Use, Types).
use Rattle.std.specs.Prelude.{◌≡◌, ℕ, Bool, true, List, Option, Some, None, String, map, option_map, slice_get, string_bytes}
use Rattle.std.specs.declared.alloc.Global.{Global}
use Rattle.wit_words.specs.declared.source_map.Span.{Span}
use Rattle.wit_types.specs.declared.function.Function.{Function}
use Rattle.wit_types.specs.declared.interface.TypeDef.{TypeDef}
use Rattle.wit_types.specs.declared.interface.TypeOwner.TheVariants as belongs
use Rattle.wit_types.specs.declared.stability.Stability.{Stability}
use Rattle.wit_types.specs.declared.world.WorldInclude.{WorldInclude}
use Rattle.wit_types.specs.declared.world.WorldItem.{WorldItem}
use Rattle.wit_types.specs.declared.world.WorldItem.TheVariants as item
use Rattle.wit_types.specs.declared.world_key.WorldKey.{WorldKey}
use Rattle.wit_types.specs.WorldKey.{Known, spelled, placed, known}
use Rattle.wit_scopes.specs.declared.worlds.Side.{Side}
use Rattle.wit_scopes.specs.declared.worlds.Side.TheVariants.{Import, Export}
use Rattle.wit_scopes.specs.Scopes as scope
use Rattle.wit_scopes.specs.Scopes.{WorldScope, WorldMemberTree, ListedTree, IncludedTree, ExternKind}
use Rattle.wit_scopes.specs.Members.{MemberTree}
use Rattle.wit_items.specs.ItemTree.{AttributeTree, FuncTree}
use Rattle.wit_orders.specs.Needs.{types_of}
use Rattle.wit_arena.specs.Tree.{Name, in_interface, in_world, in_listed, Owner, Tree}
use Rattle.wit_arena.specs.Unfold.{Owners}
use Rattle.wit_arena.specs.Standing.{Stands}
use Rattle.wit_arena.specs.Meaning.{Has}
use Rattle.wit_package_types.specs.Stability.{IsStabilityOf}
use Rattle.wit_well_formed.specs.Passed.wit_resolved_scopes-InArena.{Context, own_owner}
use Rattle.wit_well_formed.specs.Passed.wit_resolved_scopes-Texts.{own_members, side_members, includes_of}
use Rattle.wit_well_formed.specs.Passed.wit_worlds-Worlds.{function_member, target_owner, include_name, written_name}
use Rattle.wit_pushed_trees.specs.Meaning.{IsKindMeant, IsFunctionMeant}

-- ---- gates

-- those in front of an item say that of it, and by it the item is kept
abbrev pub IsKeptByGates : (Stability → Bool) → List AttributeTree → Stability → Type 0
IsKeptByGates kept attributes s = IsStabilityOf attributes s × (kept s ≡ true)

-- before features leave anything out, all is
abbrev pub all_kept : Stability → Bool
all_kept s = true

-- ---- items

-- one of these texts is that of a world of this name, and is kept by its gates
pub record IsTextOf (kept : Stability → Bool) (ws : List WorldScope) (name : String Global) (stability : Stability) (w : WorldScope) : Type 0 where
  pub there : Has ws w
  pub named : string_bytes name ≡ w.name.text
  pub gates : IsKeptByGates kept w.attributes stability

-- a type that belongs to a world is the one of these members that has that name, and is kept by its gates
pub record IsTypeWritten (kept : Stability → Bool) (types : List TypeDef) (ms : List MemberTree) (x : Name) (id : ℕ) : Type 0 where
  pub member : MemberTree
  pub written : Has (types_of ms) member
  pub spelled_as : x ≡ member.name.text
  pub def : TypeDef
  pub there : slice_get types id ≡ Some def
  pub named : option_map string_bytes def.name ≡ Some x
  pub world : ℕ
  pub owner : def.owner ≡ belongs.World world
  pub gates : IsKeptByGates kept member.attributes def.stability

-- a type of a world is one of the text of the world, and stands for what its name means there
pub record IsTypeMeant (kept : Stability → Bool) (given : Owner → Name → Tree) (c : Context) (owners : Owners) (types : List TypeDef) (ws : List WorldScope) (name : String Global) (stability : Stability) (key : WorldKey) (id : ℕ) : Type 0 where
  pub text : WorldScope
  pub is_text : IsTextOf kept ws name stability text
  pub spelling : Name
  pub known_by : known key ≡ spelled spelling
  pub means : Stands c.me c.scopes given owners types (in_world text.name.text) spelling id
  pub written : IsTypeWritten kept types (own_members text.members) spelling id

-- a function of a world's own, or one that it lists
abbrev pub IsGiven : WorldMemberTree → MemberTree → Type 0
IsGiven (scope.member m) n = n ≡ m
IsGiven (scope.listed l) n = (f : FuncTree) × (l.kind ≡ scope.ExternKind.function f) × (n ≡ function_member l f)
IsGiven (scope.included i) n = ⊥

-- a function that a world imports, or exports, is one that its text has there, of a resource of the text if it is of one
pub record IsOwnFunctionMeant (kept : Stability → Bool) (given : Owner → Name → Tree) (c : Context) (owners : Owners) (types : List TypeDef) (ws : List WorldScope) (name : String Global) (stability : Stability) (side : Side) (f : Function) : Type 0 where
  pub text : WorldScope
  pub is_text : IsTextOf kept ws name stability text
  pub is : IsFunctionMeant given c owners types (in_world text.name.text) (own_members text.members) f
  pub giver : WorldMemberTree
  pub on_side : Has (side_members side text.members) giver
  pub gives : IsGiven giver is.member
  pub gates : IsKeptByGates kept is.member.attributes f.stability
  pub resource : IsKindMeant (λ (x : Name) (i : ℕ). IsTypeWritten kept types (own_members text.members) x i) is.member.kind f.kind

-- whose an interface is that a text lists: the world's own, or what a path leads to
abbrev pub extern_owner : Context → Name → ListedTree → ExternKind → Option Owner
extern_owner c w l (scope.ExternKind.function f) = None
extern_owner c w l (scope.ExternKind.interface ms) = Some (own_owner c (in_listed w l.side l.name.text))
extern_owner c w l (scope.item t) = Some (target_owner c.me in_interface t)

-- by what it is known: one that stands in the world by its label, what a path names by its id
abbrev pub listed_key : ListedTree → ExternKind → ℕ → Known
listed_key l (scope.ExternKind.function f) id = spelled l.name.text
listed_key l (scope.ExternKind.interface ms) id = spelled l.name.text
listed_key l (scope.item t) id = placed id

-- an interface that a world imports, or exports, by a key is one that its text lists there
pub record IsInterfaceListed (kept : Stability → Bool) (c : Context) (owners : Owners) (ws : List WorldScope) (name : String Global) (stability : Stability) (side : Side) (key : WorldKey) (id : ℕ) (gate : Stability) : Type 0 where
  pub text : WorldScope
  pub is_text : IsTextOf kept ws name stability text
  pub listed : ListedTree
  pub there : Has text.members (scope.listed listed)
  pub side_is : listed.side ≡ side
  pub whose : Owner
  pub listed_as : extern_owner c text.name.text listed listed.kind ≡ Some whose
  pub owner : slice_get owners.interfaces id ≡ Some whose
  pub keyed : known key ≡ listed_key listed listed.kind id
  pub gates : IsKeptByGates kept listed.attributes gate

-- a world includes the one to which a path of its text leads, with names that change as written
pub record IsIncludeMeant (kept : Stability → Bool) (c : Context) (owners : Owners) (ws : List WorldScope) (name : String Global) (stability : Stability) (n : WorldInclude) : Type 0 where
  pub text : WorldScope
  pub is_text : IsTextOf kept ws name stability text
  pub written : IncludedTree
  pub there : Has (includes_of text.members) written
  pub owner : slice_get owners.worlds n.id ≡ Some (target_owner c.me in_world written.world)
  pub names : map include_name n.names.items ≡ map written_name written.names
  pub gates : IsKeptByGates kept written.attributes n.stability

-- one of these texts is that of a world of this name and these gates, and so it is of all that this imports and exports itself, and of what it includes; gates keep all of it
pub record IsWorldMeant (kept : Stability → Bool) (given : Owner → Name → Tree) (c : Context) (owners : Owners) (types : List TypeDef) (ws : List WorldScope) (name : String Global) (stability : Stability) (imports exports : List (WorldKey × WorldItem)) (includes : List WorldInclude) : Type 0 where
  pub text : WorldScope
  pub is_text : IsTextOf kept ws name stability text
  pub own_types : (key : WorldKey) (id : ℕ) (span : Span) → Has imports (key, item.TypeItem id span) → IsTypeMeant kept given c owners types ws name stability key id
  pub imported_functions : (key : WorldKey) (f : Function) → Has imports (key, item.Function f) → IsOwnFunctionMeant kept given c owners types ws name stability Import f
  pub exported_functions : (key : WorldKey) (f : Function) → Has exports (key, item.Function f) → IsOwnFunctionMeant kept given c owners types ws name stability Export f
  pub imported : (key : WorldKey) (id : ℕ) (gate : Stability) (span : Span) → Has imports (key, item.Interface id gate span) → IsInterfaceListed kept c owners ws name stability Import key id gate
  pub exported : (key : WorldKey) (id : ℕ) (gate : Stability) (span : Span) → Has exports (key, item.Interface id gate span) → IsInterfaceListed kept c owners ws name stability Export key id gate
  pub no_exported_types : (key : WorldKey) (id : ℕ) (span : Span) → Has exports (key, item.TypeItem id span) → ⊥
  pub included : (n : WorldInclude) → Has includes n → IsIncludeMeant kept c owners ws name stability n
