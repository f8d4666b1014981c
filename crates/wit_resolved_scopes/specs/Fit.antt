-- What is asked of the scopes of a package, so that each may be brought into an arena (WIT, Name Resolution).
use Rattle.std.specs.Prelude.{◌≡◌, ℕ, List, map, Some, take, slice_get}
use Rattle.wit_words.specs.Slice.{Slice}
use Rattle.wit_lookups.specs.Passed.wit_scopes-declared-worlds-Side.{Side}
use Rattle.wit_lookups.specs.Passed.wit_scopes-declared-worlds-Side-TheVariants.{Import}
use Rattle.wit_lookups.specs.Passed.wit_scopes-Paths.{TargetTree, own, foreign}
use Rattle.wit_lookups.specs.Passed.wit_scopes-Members.{MemberKind, MemberTree, used, defined, function, method, static, constructor}
use Rattle.wit_lookups.specs.Passed.wit_scopes-Scopes as scope
use Rattle.wit_lookups.specs.Passed.wit_scopes-Scopes.{ListedTree, IncludedTree, WorldMemberTree, InterfaceScope, WorldScope}
use Rattle.wit_lookups.specs.Passed.wit_rules-Labels.{full_name}
use Rattle.wit_orders.specs.Needs.{types_of}
use Rattle.wit_resources.specs.Passed.wit_arena-Tree.{Name, in_interface, in_world}
use Rattle.wit_resources.specs.Passed.wit_arena-Meaning.{Has, package_text}
use Rattle.wit_resources.specs.Passed.wit_arena-Unfold.{Owners}
use Rattle.wit_functions.specs.Passed.wit_package_types-Foreign.{ForeignName, foreign_name}
use Rattle.wit_functions.specs.Passed.wit_package_types-Known.{KnownTypes, FindsOwn}
use Rattle.wit_functions.specs.Passed.wit_package_types-Fill.{member_names}
use Rattle.wit_functions.specs.Passed.wit_package_types-Stability.{AreGates}
use Rattle.wit_resolved_scopes.specs.Each.{AreApartBy}
use Rattle.wit_resolved_scopes.specs.Scope.{functions_among, all_names}
use Rattle.wit_resolved_scopes.specs.Texts.{InterfaceText, interface_text, labelled_texts, own_members, side_members, includes_of, plain, key_text}

-- ---- members

-- the names of the types among members
abbrev pub type_names : List MemberTree → List Name
type_names ms = member_names (types_of ms)

-- members by themselves: no two types have one name, each name that stands in one is a type's, and their gates may stand together
pub record AreFit (ms : List MemberTree) : Type 0 where
  pub types_apart : AreApartBy (λ m. m.name.text) (types_of ms)
  pub named : (m : MemberTree) → Has ms m → (x : Slice) → Has (all_names m.kind) x → Has (type_names ms) x.text
  pub gates : (m : MemberTree) → Has ms m → AreGates m.attributes

-- what is there of other packages: interfaces and worlds by their ids, and types
pub record Foreign : Type 0 where
  pub owners : Owners
  pub types : List (ForeignName × ℕ)

-- where a `use` leads: to a type of one of these interfaces, or of another package
abbrev pub LeadsAmong : List InterfaceScope → Foreign → TargetTree → Slice → Type 0
LeadsAmong is others (own x) y = (i : InterfaceScope) × Has is i × (i.name.text ≡ x.text) × Has (type_names i.members) y.text
LeadsAmong is others (foreign p x) y = (j : ℕ) × Has others.types (foreign_name p x y, j)

abbrev pub IsUsedAmong : List InterfaceScope → Foreign → MemberKind → Type 0
IsUsedAmong is others (used from y) = LeadsAmong is others from y
IsUsedAmong is others (defined d) = Unit {0}
IsUsedAmong is others (function f) = Unit {0}
IsUsedAmong is others (method r f) = Unit {0}
IsUsedAmong is others (static r f) = Unit {0}
IsUsedAmong is others (constructor r ps t) = Unit {0}

-- members that are fit, of which each `use` leads among these
pub record AreFitAmong (is : List InterfaceScope) (others : Foreign) (ms : List MemberTree) : Type 0 where
  pub fit : AreFit ms
  pub uses : (m : MemberTree) → Has ms m → IsUsedAmong is others m.kind

-- ---- interfaces

-- an interface whose members are, of which no two functions have one name
pub record IsInterfaceReady (is : List InterfaceScope) (others : Foreign) (t : InterfaceText) : Type 0 where
  pub members : AreFitAmong is others t.members
  pub functions_apart : AreApartBy (λ m. full_name m.kind m.name) (functions_among t.members)
  pub gates : AreGates t.attributes

-- interfaces of which each is ready behind those in front of it
pub record AreInterfacesReady (others : Foreign) (is : List InterfaceScope) : Type 0 where
  pub apart : AreApartBy (λ i. i.name.text) is
  pub each : (n : ℕ) (i : InterfaceScope) → slice_get is n ≡ Some i → IsInterfaceReady (take n is) others (interface_text i)

-- what is known of these interfaces: their names, and each type of each
pub record KnowsInterfaces (k : KnownTypes) (is : List InterfaceScope) : Type 0 where
  pub names : k.names ≡ map (λ i. i.name.text) is
  pub types : (i : InterfaceScope) → Has is i → (y : Name) → Has (type_names i.members) y → (j : ℕ) × FindsOwn k i.name.text y j

-- ---- worlds

-- what a path of an import or export names, and what an `include` names
abbrev pub IsInterfaceAmong : List InterfaceScope → Foreign → TargetTree → Type 0
IsInterfaceAmong is others (own n) = Has (map (λ i. i.name.text) is) n.text
IsInterfaceAmong is others (foreign p n) = Has others.owners.interfaces (record { package_text = package_text p; place = in_interface n.text })

abbrev pub IsWorldAmong : List WorldScope → Foreign → TargetTree → Type 0
IsWorldAmong ws others (own n) = Has (map (λ w. w.name.text) ws) n.text
IsWorldAmong ws others (foreign p n) = Has others.owners.worlds (record { package_text = package_text p; place = in_world n.text })

-- a world whose scopes are ready, of which each path leads among these interfaces and each `include` among these worlds, and of which no two imports and no two exports
-- have one key
pub record IsWorldReady (is : List InterfaceScope) (ws : List WorldScope) (others : Foreign) (w : WorldScope) : Type 0 where
  pub own : AreFitAmong is others (own_members w.members)
  pub labelled : (t : InterfaceText) → Has (labelled_texts w) t → IsInterfaceReady is others t
  pub paths : (l : ListedTree) (t : TargetTree) → Has w.members (scope.listed l) → l.kind ≡ scope.item t → IsInterfaceAmong is others t
  pub includes : (i : IncludedTree) → Has (includes_of w.members) i → IsWorldAmong ws others i.world × AreGates i.attributes
  pub listed_gates : (l : ListedTree) → Has w.members (scope.listed l) → AreGates l.attributes
  pub gates : AreGates w.attributes
  pub keys_apart : (side : Side) → AreApartBy key_text (side_members side w.members)
  pub types_apart : (m : MemberTree) (x : WorldMemberTree) → Has (types_of (own_members w.members)) m → Has (side_members Import w.members) x → key_text x ≡ plain m.name.text → ⊥

-- worlds of which each is ready behind those in front of it
pub record AreWorldsReady (is : List InterfaceScope) (others : Foreign) (ws : List WorldScope) : Type 0 where
  pub apart : AreApartBy (λ w. w.name.text) ws
  pub each : (n : ℕ) (w : WorldScope) → slice_get ws n ≡ Some w → IsWorldReady is (take n ws) others w
