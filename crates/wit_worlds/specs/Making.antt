-- A world made of its scope.
use Rattle.std.specs.Prelude.{◌≡◌, ℕ, ◌+◌, ◌<◌, ◌^◌, ◌++◌, List, None, length, string_bytes}
use Rattle.wit_types.specs.declared.function.Function.{Function}
use Rattle.wit_types.specs.declared.interface.TypeDef.{TypeDef}
use Rattle.wit_types.specs.declared.world.World.{World}
use Rattle.wit_types.specs.declared.world.WorldInclude.{WorldInclude}
use Rattle.wit_scopes.specs.declared.worlds.Side.{Side}
use Rattle.wit_scopes.specs.declared.worlds.Side.TheVariants.{Import}
use Rattle.wit_scopes.specs.Scopes.{WorldMemberTree, WorldScope}
use Rattle.wit_arena.specs.Tree.{Name}
use Rattle.wit_arena.specs.Table.{Entries}
use Rattle.wit_arena.specs.Meaning.{Has}
use Rattle.wit_arena.specs.Docs.{said, contents_of}
use Rattle.wit_foreign.specs.Passed.wit_package_types-Stability.{AreGates, IsStabilityOf}
use Rattle.wit_resolved_scopes.specs.Each.{Each, AreApartBy}
use Rattle.wit_resolved_scopes.specs.Scope.{functions_among}
use Rattle.wit_resolved_scopes.specs.InArena.{IsFunctionOf}
use Rattle.wit_resolved_scopes.specs.Texts.{labelled_texts, own_members, side_members, plain, key_text}
use Rattle.wit_worlds.specs.Worlds.{Entry, IsTypeEntry}
use Rattle.wit_worlds.specs.Paths.{PathsTree, AreSorts, HaveOneOwner}
use Rattle.wit_worlds.specs.Listing.{IsThere, AreListsMade}

-- a world with these imports, exports and included worlds, of which the same is said as in the text; whose package isn't known yet
pub record IsWorldOf (w : WorldScope) (imports exports : List Entry) (includes : List WorldInclude) (d : World) : Type 0 where
  pub name : string_bytes d.name ≡ w.name.text
  pub imports_are : d.imports.entries ≡ imports
  pub exports_are : d.exports.entries ≡ exports
  pub includes_are : d.includes.items ≡ includes
  pub docs : contents_of d.docs ≡ said w.docs
  pub stability : IsStabilityOf w.attributes d.stability
  pub loose : d.«package» ≡ None
  pub span : d.span ≡ w.name.span

-- what is asked of a world with these types, functions and ids of interfaces that stand in it: they are its own, its paths lead somewhere, its gates may stand together,
-- and no two imports and no two exports have one key
pub record MayMake (ps : PathsTree) (w : WorldScope) (a : List TypeDef) (table : Entries) (fs : List Function) (ids : List ℕ) : Type 0 where
  pub functions : Each (IsFunctionOf table) (functions_among (own_members w.members)) fs
  pub labelled : length ids ≡ length (labelled_texts w)
  pub there : (m : WorldMemberTree) → Has w.members m → IsThere ps m
  pub sorts : AreSorts ps.items
  pub one_owner : HaveOneOwner ps
  pub interfaces_fit : ps.first_interface + length ps.interfaces < 2 ^ 64
  pub worlds_fit : ps.first_world + length ps.worlds < 2 ^ 64
  pub gates : AreGates w.attributes
  pub within : (e : Name × ℕ) → Has table e → e.1 < length a
  pub names_apart : AreApartBy (λ e. e.0) table
  pub keys_apart : (side : Side) → AreApartBy key_text (side_members side w.members)
  pub types_apart : (e : Name × ℕ) (x : WorldMemberTree) → Has table e → Has (side_members Import w.members) x → key_text x ≡ plain e.0 → ⊥

-- its types come first among its imports
pub record MakesWorld (ps : PathsTree) (w : WorldScope) (a : List TypeDef) (table : Entries) (fs : List Function) (ids : List ℕ) (d : World) : Type 0 where
  pub type_entries : List Entry
  pub other_imports : List Entry
  pub exports : List Entry
  pub includes : List WorldInclude
  pub type_entries_are : Each (IsTypeEntry a) table type_entries
  pub lists_are : AreListsMade ps w.name.text w.members fs ids other_imports exports includes
  pub is : IsWorldOf w (type_entries ++ other_imports) exports includes d

-- what is asked of a world whose members are to be listed
pub record MayList (ps : PathsTree) (w : WorldScope) (fs : List Function) (ids : List ℕ) : Type 0 where
  pub functions : length fs ≡ length (functions_among (own_members w.members))
  pub labelled : length ids ≡ length (labelled_texts w)
  pub there : (m : WorldMemberTree) → Has w.members m → IsThere ps m
  pub sorts : AreSorts ps.items
  pub interfaces_fit : ps.first_interface + length ps.interfaces < 2 ^ 64
  pub worlds_fit : ps.first_world + length ps.worlds < 2 ^ 64
