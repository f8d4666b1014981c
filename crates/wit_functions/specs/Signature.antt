-- What functions take and give (WIT, Item: `func`, Item: `resource`).
use Rattle.std.specs.Prelude.{◌≡◌, ℕ, List, [], ◌∷◌, ◌++◌, Option, Some, None, map, codes, if◌then◌else◌}
use Rattle.wit_words.specs.declared.source_map.Span.{Span}
use Rattle.wit_words.specs.Slice.{Slice}
use Rattle.wit_types.specs.declared.function.FunctionKind.{FunctionKind}
use Rattle.wit_types.specs.declared.function.FunctionKind.TheVariants as kind
use Rattle.wit_types.specs.declared.interface.TypeDef.{TypeDef}
use Rattle.wit_package_types.specs.Passed.wit_productions-TypeTree as written
use Rattle.wit_package_types.specs.Passed.wit_productions-TypeTree.{TypeTree, standing}
use Rattle.wit_package_types.specs.Passed.wit_items-ItemTree.{ParamTree}
use Rattle.wit_package_types.specs.Passed.wit_scopes-Members.{MemberKind, MemberTree, used, defined, function, method, static, constructor}
use Rattle.wit_package_types.specs.Passed.wit_type_names-TypeNames.{signature_parts, names_in_member}
use Rattle.wit_package_types.specs.Passed.wit_arena-Table.{Entries}
use Rattle.wit_package_types.specs.Passed.wit_arena-Meaning.{Has}
use Rattle.wit_package_types.specs.Passed.wit_arena-Lower.{LowersParts}
use Rattle.wit_package_types.specs.Passed.wit_arena-LowerParams.{written_param, param_label}
use Rattle.wit_functions.specs.declared.signature.Signature.{Signature}

abbrev pub IsFunction : MemberKind → Type 0
IsFunction (used t n) = ⊥
IsFunction (defined k) = ⊥
IsFunction (function f) = Unit {0}
IsFunction (method r f) = Unit {0}
IsFunction (static r f) = Unit {0}
IsFunction (constructor r ps t) = Unit {0}

-- ---- what is not written

-- self: borrow<resource>, before all other parameters; it stands where the name of the method does
abbrev pub with_self : Slice → Slice → List ParamTree → List ParamTree
with_self r name ps = record { name = record { text = codes "self"; span = name.span }; ty = standing name.span (written.borrow r) } ∷ ps

-- own<resource>, where nothing is said; it stands where the whole constructor does
abbrev pub or_resource : Slice → Span → Option TypeTree → Option TypeTree
or_resource r whole None = Some (standing whole (written.own r))
or_resource r whole (Some t) = Some t

abbrev pub params_of : MemberKind → Slice → List ParamTree
params_of (used t n) name = []
params_of (defined k) name = []
params_of (function f) name = f.params
params_of (method r f) name = with_self r name f.params
params_of (static r f) name = f.params
params_of (constructor r ps t) name = ps

abbrev pub result_of : MemberKind → Span → Option TypeTree
result_of (used t n) whole = None
result_of (defined k) whole = None
result_of (function f) whole = f.result
result_of (method r f) whole = f.result
result_of (static r f) whole = f.result
result_of (constructor r ps t) whole = or_resource r whole t

abbrev pub all_params : MemberTree → List ParamTree
all_params m = params_of m.kind m.name

abbrev pub all_result : MemberTree → Option TypeTree
all_result m = result_of m.kind m.span

-- ---- names

abbrev pub behind : Slice → List Slice → List Slice
behind r xs = r ∷ xs

-- the names that stand in a function, its resource's too
abbrev pub function_names : MemberKind → List Slice
function_names (used t n) = []
function_names (defined k) = []
function_names (function f) = names_in_member (function f)
function_names (method r f) = behind r (names_in_member (method r f))
function_names (static r f) = behind r (names_in_member (static r f))
function_names (constructor r ps t) = behind r (names_in_member (constructor r ps t))

-- ---- in the arena

-- from an arena parameters and a result give an arena and what they are there, from left to right
pub record LowersSignature (table : Entries) (a : List TypeDef) (ps : List ParamTree) (e : Option TypeTree) (b : List TypeDef) (s : Signature) : Type 0 where
  pub types : LowersParts table a (signature_parts ps e) b (map (λ q. Some q.ty) s.params.items ++ s.result ∷ [])
  pub labels : map param_label s.params.items ≡ map written_param ps

-- whose a function is, and whether it is asynchronous
abbrev pub IsKindOf : Entries → MemberKind → FunctionKind → Type 0
IsKindOf table (used t n) k = ⊥
IsKindOf table (defined t) k = ⊥
IsKindOf table (function f) k = k ≡ (if f.is_async then kind.AsyncFreestanding else kind.Freestanding)
IsKindOf table (method r f) k = (i : ℕ) × Has table (r.text, i) × (k ≡ (if f.is_async then kind.AsyncMethod i else kind.Method i))
IsKindOf table (static r f) k = (i : ℕ) × Has table (r.text, i) × (k ≡ (if f.is_async then kind.AsyncStatic i else kind.Static i))
IsKindOf table (constructor r ps t) k = (i : ℕ) × Has table (r.text, i) × (k ≡ kind.Constructor i)
