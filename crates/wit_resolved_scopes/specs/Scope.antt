-- A scope of a package brought into an arena: its types, then its functions (WIT, Item: `interface`).
use Rattle.std.specs.Prelude.{◌≡◌, ℕ, List, [], ◌∷◌, ◌++◌, flat_map, Some, slice_get}
use Rattle.wit_words.specs.Slice.{Slice}
use Rattle.wit_types.specs.declared.function.Function.{Function}
use Rattle.wit_types.specs.declared.interface.TypeDef.{TypeDef}
use Rattle.wit_types.specs.declared.interface.TypeOwner.{TypeOwner}
use Rattle.wit_lookups.specs.Passed.wit_scopes-Members.{MemberKind, MemberTree, used, defined, function, method, static, constructor}
use Rattle.wit_lookups.specs.Passed.wit_type_names-TypeNames.{names_in_member}
use Rattle.wit_orders.specs.Needs.{AreSorted}
use Rattle.wit_resources.specs.Passed.wit_arena-Table.{Entries}
use Rattle.wit_resources.specs.Passed.wit_arena-Meaning.{Has}
use Rattle.wit_resources.specs.Passed.wit_arena-Standing.{IsOfType}
use Rattle.wit_functions.specs.Passed.wit_package_types-Stability.{AreGates}
use Rattle.wit_functions.specs.Passed.wit_package_types-Known.{KnownTypes, Finds}
use Rattle.wit_functions.specs.Passed.wit_package_types-Fill.{member_names, Fills}
use Rattle.wit_functions.specs.Signature.{IsFunction, function_names}
use Rattle.wit_functions.specs.Function.{LowersFunction}

-- ---- the functions among members

abbrev pub function_of : MemberKind → MemberTree → List MemberTree
function_of (used t n) m = []
function_of (defined k) m = []
function_of (function f) m = m ∷ []
function_of (method r f) m = m ∷ []
function_of (static r f) m = m ∷ []
function_of (constructor r ps t) m = m ∷ []

abbrev pub member_function : MemberTree → List MemberTree
member_function m = function_of m.kind m

abbrev pub functions_among : List MemberTree → List MemberTree
functions_among ms = flat_map member_function ms

-- ---- one way to bring a scope into an arena

-- a function goes behind the others; a type is passed over
pub data AddsFunction (table : Entries) (a : List TypeDef) (fs : List Function) (m : MemberTree) : List TypeDef → List Function → Type 0 where
  adds_function : (b : List TypeDef) (f : Function) → IsFunction m.kind → LowersFunction table a m b f → AddsFunction table a fs m b (fs ++ f ∷ [])
  passes_type : IsOfType m.kind → AddsFunction table a fs m a fs

-- the functions among members, in their order
pub data LowersFunctions (table : Entries) (a : List TypeDef) : List MemberTree → List TypeDef → List Function → Type 0 where
  no_members : LowersFunctions table a [] a []
  one_more : (ms : List MemberTree) (m : MemberTree) (b c : List TypeDef) (fs gs : List Function) → LowersFunctions table a ms b fs → AddsFunction table b fs m c gs → LowersFunctions table a (ms ++ m ∷ []) c gs

-- the types of a scope in their order
pub record FillsSorted (k : KnownTypes) (whose : TypeOwner) (a : List TypeDef) (types : List MemberTree) (b : List TypeDef) (table : Entries) : Type 0 where
  pub sorted : List MemberTree
  pub are_sorted : AreSorted types sorted
  pub fills : Fills k whose a sorted b table

-- and behind them its functions in that of the text
pub record ResolvesScope (k : KnownTypes) (whose : TypeOwner) (a : List TypeDef) (types ms : List MemberTree) (b : List TypeDef) (table : Entries) (fs : List Function) : Type 0 where
  pub between : List TypeDef
  pub types_are : FillsSorted k whose a types between table
  pub functions : LowersFunctions table between ms b fs

-- ---- what is asked of a scope

-- the names that stand in a member, its resource's too
abbrev pub all_names : MemberKind → List Slice
all_names (used t n) = []
all_names (defined k) = names_in_member (defined k)
all_names (function f) = function_names (function f)
all_names (method r f) = function_names (method r f)
all_names (static r f) = function_names (static r f)
all_names (constructor r ps t) = function_names (constructor r ps t)

-- what is used is known
abbrev pub IsUsedKnown : KnownTypes → MemberKind → Type 0
IsUsedKnown k (used from y) = (type_id : ℕ) × Finds k from y type_id
IsUsedKnown k (defined d) = Unit {0}
IsUsedKnown k (function f) = Unit {0}
IsUsedKnown k (method r f) = Unit {0}
IsUsedKnown k (static r f) = Unit {0}
IsUsedKnown k (constructor r ps t) = Unit {0}

-- the members of a scope and its types, in the order of the text: no two types have one name, what they use is known, all that they name is one of them, and
-- their gates may stand together
pub record AreReady (k : KnownTypes) (types ms : List MemberTree) : Type 0 where
  pub types_are : (m : MemberTree) → Has types m → IsOfType m.kind
  pub among : (m : MemberTree) → Has types m → Has ms m
  pub distinct : (i j : ℕ) (m n : MemberTree) → slice_get types i ≡ Some m → slice_get types j ≡ Some n → m.name.text ≡ n.name.text → i ≡ j
  pub known : (m : MemberTree) → Has ms m → IsUsedKnown k m.kind
  pub named : (m : MemberTree) → Has ms m → (x : Slice) → Has (all_names m.kind) x → Has (member_names types) x.text
  pub gates : (m : MemberTree) → Has ms m → AreGates m.attributes
