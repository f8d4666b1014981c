-- One way to bring the types of a scope into an arena (WIT, Items, Use).
use Rattle.std.specs.Prelude.{◌≡◌, ℕ, List, [], ◌∷◌, ◌++◌, Some, map, take, length, slice_get, option_map, string_bytes}
use Rattle.wit_types.specs.Passed.wit_words-Slice.{Slice}
use Rattle.wit_types.specs.declared.kind.«Type».TheVariants.{Id}
use Rattle.wit_types.specs.declared.kind.TypeDefKind.{TypeDefKind}
use Rattle.wit_types.specs.declared.kind.TypeDefKind.TheVariants as kind
use Rattle.wit_types.specs.declared.interface.TypeDef.{TypeDef}
use Rattle.wit_types.specs.declared.interface.TypeOwner.{TypeOwner}
use Rattle.wit_rules.specs.Passed.wit_items-ItemTree.{TypeDefKindTree}
use Rattle.wit_rules.specs.Passed.wit_scopes-Paths.{TargetTree}
use Rattle.wit_rules.specs.Passed.wit_scopes-Members.{MemberKind, MemberTree, used, defined, function, method, static, constructor}
use Rattle.wit_arena.specs.Passed.wit_type_names-TypeNames.{definition_parts, names_in_parts}
use Rattle.wit_arena.specs.Tree.{Name}
use Rattle.wit_arena.specs.Table.{Entries}
use Rattle.wit_arena.specs.Meaning.{Has}
use Rattle.wit_arena.specs.Docs.{said, contents_of}
use Rattle.wit_arena.specs.LowerKind.{LowersKind}
use Rattle.wit_package_types.specs.Stability.{AreGates, IsStabilityOf}
use Rattle.wit_package_types.specs.Known.{KnownTypes, Finds}

abbrev pub names_of : Entries → List Name
names_of table = map (λ e. e.0) table

abbrev pub member_names : List MemberTree → List Name
member_names ms = map (λ m. m.name.text) ms

-- a type of a scope in which these names are those of types: what it names is one of them, and what it uses is known
abbrev pub IsFound : KnownTypes → List Name → MemberKind → Type 0
IsFound k names (used from y) = (type_id : ℕ) × Finds k from y type_id
IsFound k names (defined t) = (x : Slice) → Has (names_in_parts (definition_parts t)) x → Has names x.text
IsFound k names (function f) = ⊥
IsFound k names (method r f) = ⊥
IsFound k names (static r f) = ⊥
IsFound k names (constructor r ps t) = ⊥

-- types of a scope: each is new, is found behind those in front of it, and has gates that may stand together
pub record AreFillable (k : KnownTypes) (ms : List MemberTree) : Type 0 where
  pub found : (n : ℕ) (m : MemberTree) → slice_get ms n ≡ Some m → IsFound k (member_names (take n ms)) m.kind
  pub new : (n : ℕ) (m : MemberTree) → slice_get ms n ≡ Some m → Has (member_names (take n ms)) m.name.text → ⊥
  pub gates : (n : ℕ) (m : MemberTree) → slice_get ms n ≡ Some m → AreGates m.attributes

-- a type of that kind, with the name, the docs, the gates and the place that the text gives it
pub record IsTypeOf (whose : TypeOwner) (m : MemberTree) (k : TypeDefKind) (d : TypeDef) : Type 0 where
  pub name : option_map string_bytes d.name ≡ Some m.name.text
  pub kind : d.kind ≡ k
  pub owner : d.owner ≡ whose
  pub docs : contents_of d.docs ≡ said m.docs
  pub stability : IsStabilityOf m.attributes d.stability
  pub span : d.span ≡ m.name.span

-- what a type of a scope is, behind the types that stand in it: a definition as it is written, a name that is used as another name
pub data GivesKind (k : KnownTypes) (table : Entries) (a : List TypeDef) : MemberKind → List TypeDef → TypeDefKind → Type 0 where
  gives_defined : (t : TypeDefKindTree) (b : List TypeDef) (n : TypeDefKind) → LowersKind table a t b n → GivesKind k table a (defined t) b n
  gives_used : (from : TargetTree) (y : Slice) (type_id : ℕ) → Finds k from y type_id → GivesKind k table a (used from y) a (kind.Alias (Id type_id))

-- a type of a scope goes last, behind the types that stand in it
pub record Defines (k : KnownTypes) (table : Entries) (owner : TypeOwner) (a : List TypeDef) (m : MemberTree) (b : List TypeDef) (type_id : ℕ) : Type 0 where
  pub before : List TypeDef
  pub kind : TypeDefKind
  pub def : TypeDef
  pub gives : GivesKind k table a m.kind before kind
  pub is : IsTypeOf owner m kind def
  pub last : b ≡ before ++ def ∷ []
  pub id_is : type_id ≡ length before

-- types of a scope one behind the other, each under its name
pub data Fills (k : KnownTypes) (owner : TypeOwner) (a : List TypeDef) : List MemberTree → List TypeDef → Entries → Type 0 where
  fills_none : Fills k owner a [] a []
  fills_more : (ms : List MemberTree) (m : MemberTree) (b c : List TypeDef) (table : Entries) (type_id : ℕ) → Fills k owner a ms b table → Defines k table owner b m c type_id
      → Fills k owner a (ms ++ m ∷ []) c (table ++ (m.name.text, type_id) ∷ [])
