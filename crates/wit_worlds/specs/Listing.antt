-- What is made of the imports and exports of a world, and of what it includes.
use Rattle.std.specs.Prelude.{◌≡◌, ℕ, ◌≤◌, [], ◌∷◌, ◌++◌, List, map, flat_map, length, slice_get, Some, string_bytes}
use Rattle.wit_items.specs.ItemTree.{FuncTree}
use Rattle.wit_types.specs.declared.function.Function.{Function}
use Rattle.wit_types.specs.declared.stability.Stability.{Stability}
use Rattle.wit_types.specs.declared.world.WorldItem.TheVariants as item
use Rattle.wit_types.specs.declared.world.WorldInclude.{WorldInclude}
use Rattle.wit_types.specs.WorldKey.{Known, spelled, placed, known}
use Rattle.wit_scopes.specs.Paths.{TargetTree}
use Rattle.wit_scopes.specs.Members.{MemberTree}
use Rattle.wit_scopes.specs.Scopes as scope
use Rattle.wit_scopes.specs.Scopes.{ExternKind, ListedTree, IncludedTree, WorldMemberTree}
use Rattle.wit_scopes.specs.declared.worlds.Side.TheVariants.{Import, Export}
use Rattle.wit_arena.specs.Tree.{Name}
use Rattle.wit_arena.specs.Standing.{IsOfType}
use Rattle.wit_resolved_scopes.specs.Passed.wit_functions-Signature.{IsFunction}
use Rattle.wit_foreign.specs.Passed.wit_package_types-Stability.{AreGates, IsStabilityOf}
use Rattle.wit_resolved_scopes.specs.Each.{Each}
use Rattle.wit_resolved_scopes.specs.Scope.{functions_among}
use Rattle.wit_resolved_scopes.specs.Texts.{InterfaceText, listed_text, member_texts, own_member, own_members, side_members, includes_of}
use Rattle.wit_worlds.specs.Worlds.{Entry, function_member, written_name, include_name}
use Rattle.wit_worlds.specs.Paths.{PathsTree, IsInterfaceId, IsWorldId, IsInterfaceThere, IsWorldThere}

-- an interface of that id under that key
pub record MakesInterfaceEntry (l : ListedTree) (k : Known) (id : ℕ) (e : Entry) : Type 0 where
  pub key : known e.0 ≡ k
  pub stability : Stability
  pub item : e.1 ≡ item.Interface id stability l.name.span
  pub gates : IsStabilityOf l.attributes stability

-- a function under its name
pub record MakesFunctionEntry (f : Function) (e : Entry) : Type 0 where
  pub key : known e.0 ≡ spelled (string_bytes f.name)
  pub item : e.1 ≡ item.Function f

-- from functions and ids of interfaces that are left, the first of either or none is taken
pub data MakesListed (ps : PathsTree) (l : ListedTree) : ExternKind → List Function → List ℕ → Entry → List Function → List ℕ → Type 0 where
  makes_function : (t : FuncTree) (f : Function) (fs : List Function) (ids : List ℕ) (e : Entry) → MakesFunctionEntry f e → MakesListed ps l (scope.ExternKind.function t) (f ∷ fs) ids e fs ids
  makes_interface : (ms : List MemberTree) (fs : List Function) (id : ℕ) (ids : List ℕ) (e : Entry) → MakesInterfaceEntry l (spelled l.name.text) id e → MakesListed ps l (scope.ExternKind.interface ms) fs (id ∷ ids) e fs ids
  makes_item : (t : TargetTree) (fs : List Function) (id : ℕ) (ids : List ℕ) (e : Entry) → IsInterfaceId ps t id → MakesInterfaceEntry l (placed id) id e → MakesListed ps l (scope.item t) fs ids e fs ids

pub record MakesInclude (ps : PathsTree) (i : IncludedTree) (d : WorldInclude) : Type 0 where
  pub world : IsWorldId ps i.world d.id
  pub stability : IsStabilityOf i.attributes d.stability
  pub names : map include_name d.names.items ≡ map written_name i.names
  pub span : d.span ≡ i.span

-- ---- one member more

-- a type gives nothing, a function of a resource an import, an import or export what it says, an `include` a world
pub data AddsMember (ps : PathsTree) (fs : List Function) (ids : List ℕ) (imports exports : List Entry) (includes : List WorldInclude)
    : WorldMemberTree → List Function → List ℕ → List Entry → List Entry → List WorldInclude → Type 0 where
  adds_type : (m : MemberTree) → IsOfType m.kind → AddsMember ps fs ids imports exports includes (scope.member m) fs ids imports exports includes
  adds_function : (m : MemberTree) (f : Function) (rest : List Function) (e : Entry) → IsFunction m.kind → fs ≡ f ∷ rest → MakesFunctionEntry f e
      → AddsMember ps fs ids imports exports includes (scope.member m) rest ids (imports ++ e ∷ []) exports includes
  adds_import : (l : ListedTree) (rest : List Function) (others : List ℕ) (e : Entry) → l.side ≡ Import → MakesListed ps l l.kind fs ids e rest others
      → AddsMember ps fs ids imports exports includes (scope.listed l) rest others (imports ++ e ∷ []) exports includes
  adds_export : (l : ListedTree) (rest : List Function) (others : List ℕ) (e : Entry) → l.side ≡ Export → MakesListed ps l l.kind fs ids e rest others
      → AddsMember ps fs ids imports exports includes (scope.listed l) rest others imports (exports ++ e ∷ []) includes
  adds_include : (i : IncludedTree) (d : WorldInclude) → MakesInclude ps i d → AddsMember ps fs ids imports exports includes (scope.included i) fs ids imports exports (includes ++ d ∷ [])

-- what is asked of a member: what it names is there, and its gates may stand together
pub record IsThere (ps : PathsTree) (m : WorldMemberTree) : Type 0 where
  pub path : (l : ListedTree) (t : TargetTree) → m ≡ scope.listed l → l.kind ≡ scope.item t → IsInterfaceThere ps t
  pub listed_gates : (l : ListedTree) → m ≡ scope.listed l → AreGates l.attributes
  pub world : (i : IncludedTree) → m ≡ scope.included i → IsWorldThere ps i.world × AreGates i.attributes

-- and what it takes is left
pub record IsListable (ps : PathsTree) (fs : List Function) (ids : List ℕ) (m : WorldMemberTree) : Type 0 where
  pub there : IsThere ps m
  pub functions : length (functions_among (own_member m)) ≤ length fs
  pub labelled : length (member_texts [] m) ≤ length ids

-- ---- all members

-- they stand at one place
abbrev pub ArePaired : {X Y : Type 0} → List X → List Y → X → Y → Type 0
ArePaired xs ys x y = (k : ℕ) × (slice_get xs k ≡ Some x) × (slice_get ys k ≡ Some y)

-- what is made of an import or export of a world of that name, with these members, functions, interfaces that stand in it and ids
abbrev pub IsExternMade : PathsTree → Name → List MemberTree → List Function → List InterfaceText → List ℕ → ListedTree → ExternKind → Entry → Type 0
IsExternMade ps w ms fs ts ids l (scope.ExternKind.function t) e = (f : Function) × ArePaired ms fs (function_member l t) f × MakesFunctionEntry f e
IsExternMade ps w ms fs ts ids l (scope.ExternKind.interface ns) e = (id : ℕ) × ArePaired ts ids (listed_text w l ns) id × MakesInterfaceEntry l (spelled l.name.text) id e
IsExternMade ps w ms fs ts ids l (scope.item t) e = (id : ℕ) × IsInterfaceId ps t id × MakesInterfaceEntry l (placed id) id e

abbrev pub IsEntryMade : PathsTree → Name → List MemberTree → List Function → List InterfaceText → List ℕ → WorldMemberTree → Entry → Type 0
IsEntryMade ps w ms fs ts ids (scope.member m) e = (f : Function) × ArePaired ms fs m f × MakesFunctionEntry f e
IsEntryMade ps w ms fs ts ids (scope.listed l) e = IsExternMade ps w ms fs ts ids l l.kind e
IsEntryMade ps w ms fs ts ids (scope.included i) e = ⊥

-- of all that stands in a world, in the order of the text
pub record AreListsMade (ps : PathsTree) (w : Name) (ms : List WorldMemberTree) (fs : List Function) (ids : List ℕ) (imports exports : List Entry) (includes : List WorldInclude) : Type 0 where
  pub imports_are : Each (IsEntryMade ps w (functions_among (own_members ms)) fs (flat_map (member_texts w) ms) ids) (side_members Import ms) imports
  pub exports_are : Each (IsEntryMade ps w (functions_among (own_members ms)) fs (flat_map (member_texts w) ms) ids) (side_members Export ms) exports
  pub includes_are : Each (MakesInclude ps) (includes_of ms) includes
