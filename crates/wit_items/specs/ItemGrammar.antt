-- The grammar of items but worlds (WIT).
use Rattle.std.specs.Prelude.{ℕ, Bool, true, false, if◌then◌else◌, List, [], Option, Some, None, bytes_eq, codes}
use Rattle.wit_productions.specs.Passed.wit_words-declared-token-Kind-TheVariants as kind
use Rattle.wit_items.specs.ItemTree as tree
use Rattle.wit_items.specs.ItemTree.{GateTree, AttributeTree, GatedTree, UseNameTree, UseTree, ToplevelUseTree, ParamTree, FuncTree, NamedFuncTree, FieldTree, LabelTree, CaseTree, ResourceFuncTree, TypeDefKindTree, TypeDefTree, InterfaceItemTree, InterfaceTree}
use Rattle.wit_productions.specs.Production.{Production, ◌>>=◌, ◌>>◌, yield, sign, branch, optional, documented, located, Next, none, goes, next_then, by, by_or, commas, some_commas, until, many}
use Rattle.wit_productions.specs.Passed.wit_words-declared-source_map-Span.{Span}
use Rattle.wit_productions.specs.Passed.wit_words-Slice.{Slice}
use Rattle.wit_productions.specs.Terminal.{id, version, word}
use Rattle.wit_productions.specs.Passed.wit_words-Token.{What, plain, ident}
use Rattle.wit_productions.specs.TypeGrammar.{any_type}
pub use Rattle.wit_productions.specs.NameGrammar.{package_name, path_behind, use_path}
use Rattle.wit_productions.specs.TypeTree.{TypeTree}

-- ---- attributes

-- (name =
unfoldable pub argument : List ℕ → Production (Unit {0})
argument name = do
  sign kind.LeftParenthesis
  word name
  sign kind.Equals

-- (version = version)
unfoldable pub version_argument : Production Slice
version_argument = do
  sign kind.LeftParenthesis
  word (codes "version")
  sign kind.Equals
  v ← version
  sign kind.RightParenthesis
  yield v

-- (feature = name)
unfoldable pub feature_argument : Production Slice
feature_argument = do
  sign kind.LeftParenthesis
  word (codes "feature")
  sign kind.Equals
  n ← id
  sign kind.RightParenthesis
  yield n

-- a word that names an attribute
pub data AttributeWord : Type 0 where
  since : AttributeWord
  unstable : AttributeWord
  deprecated : AttributeWord

abbrev pub attribute_word : List ℕ → Option AttributeWord
attribute_word name =
    if bytes_eq name (codes "since") then Some since
    else if bytes_eq name (codes "unstable") then Some unstable
    else if bytes_eq name (codes "deprecated") then Some deprecated
    else None

abbrev pub gate_by : Option AttributeWord → Next GateTree
gate_by None = none
gate_by (Some since) = goes (version_argument >>= (λ v. yield (tree.since v)))
gate_by (Some unstable) = goes (feature_argument >>= (λ n. yield (tree.unstable n)))
gate_by (Some deprecated) = goes (version_argument >>= (λ v. yield (tree.deprecated v)))

abbrev pub gate_at : What → Next GateTree
gate_at (ident name) = gate_by (attribute_word name)
gate_at _ = none

-- what stands behind the `@` of an attribute
unfoldable pub gate : Production GateTree
gate = by gate_at

unfoldable pub attribute : Production AttributeTree
attribute = do
  x ← located gate
  yield (record { gate = x.1; span = x.0 })

-- an item behind its attributes, and where it stands
abbrev pub attributed : {X : Type 0} → Production X → Production (List AttributeTree × Span × X)
attributed item = many kind.At attribute >>= (λ attributes. located item >>= (λ i. yield (attributes, i.0, i.1)))

-- the same with the docs in front
unfoldable pub gated : {X : Type 0} → Production X → Production (GatedTree X)
gated {X = X} item = do
  x ← documented (attributed item)
  yield (record { docs = x.0; attributes = x.1.0; item = x.1.2; span = x.1.1 })

-- ---- use

-- name or name as other
unfoldable pub use_name : Production UseNameTree
use_name = do
  n ← id
  o ← optional kind.As id
  yield (record { name = n; other = o })

-- path.{name, ..};
unfoldable pub use_behind : Production UseTree
use_behind = do
  p ← use_path
  sign kind.Dot
  sign kind.LeftBrace
  ns ← some_commas use_name kind.RightBrace
  sign kind.Semicolon
  yield (record { from = p; names = ns })

-- path; or path as other;
unfoldable pub toplevel_use_behind : Production ToplevelUseTree
toplevel_use_behind = do
  p ← use_path
  o ← optional kind.As id
  sign kind.Semicolon
  yield (record { item = p; other = o })

-- ---- functions

-- name: type
unfoldable pub param : Production ParamTree
param = do
  n ← id
  sign kind.Colon
  t ← any_type
  yield (record { name = n; ty = t })

-- (name: type, ..)
unfoldable pub params : Production (List ParamTree)
params = sign kind.LeftParenthesis >> commas param kind.RightParenthesis

-- (name: type, ..) -> type, behind func
unfoldable pub func_behind : Bool → Production FuncTree
func_behind is_async = do
  ps ← params
  r ← optional kind.RightArrow any_type
  yield (record { is_async = is_async; params = ps; result = r })

-- func(name: type, ..) -> type, or the same behind async
unfoldable pub func : Production FuncTree
func = branch kind.Async (sign kind.Func >> func_behind true) (sign kind.Func >> func_behind false)

-- func(name: type, ..) -> type; behind a name and a colon
unfoldable pub named_func_behind : Slice → Production NamedFuncTree
named_func_behind name = do
  f ← func
  sign kind.Semicolon
  yield (record { name = name; func = f })

-- name: func(name: type, ..) -> type;
unfoldable pub named_func : Production NamedFuncTree
named_func = do
  n ← id
  sign kind.Colon
  named_func_behind n

-- ---- definitions of types

-- type;
unfoldable pub alias_behind : Production TypeDefTree
alias_behind = do
  n ← id
  sign kind.Equals
  t ← any_type
  sign kind.Semicolon
  yield (record { name = n; kind = tree.alias t })

unfoldable pub field : Production FieldTree
field = do
  x ← documented param
  yield (record { docs = x.0; name = x.1.name; ty = x.1.ty })

unfoldable pub label : Production LabelTree
label = do
  x ← documented id
  yield (record { docs = x.0; name = x.1 })

-- type) behind the parenthesis that opens
abbrev pub carried : Production TypeTree
carried = any_type >>= (λ t. sign kind.RightParenthesis >> yield t)

-- name or name(type)
unfoldable pub case_parts : Production (Slice × Option TypeTree)
case_parts = do
  n ← id
  t ← optional kind.LeftParenthesis carried
  yield (n, t)

unfoldable pub case : Production CaseTree
case = do
  x ← documented case_parts
  yield (record { docs = x.0; name = x.1.0; ty = x.1.1 })

-- name { part, .. }
unfoldable pub parts : {A : Type 0} → Production A → Production (Slice × List A)
parts part = do
  n ← id
  sign kind.LeftBrace
  ps ← commas part kind.RightBrace
  yield (n, ps)

abbrev pub defined_by : {A : Type 0} → (List A → TypeDefKindTree) → Slice × List A → Production TypeDefTree
defined_by made x = yield (record { name = x.0; kind = made x.1 })

-- (name: type, ..); or (name: type, ..) -> type; behind constructor
unfoldable pub constructor_behind : Production ResourceFuncTree
constructor_behind = do
  ps ← params
  r ← optional kind.RightArrow any_type
  sign kind.Semicolon
  yield (tree.constructor ps r)

-- func ..; or static func ..; behind a name and a colon
unfoldable pub method_behind : Slice → Production ResourceFuncTree
method_behind name = branch kind.Static (named_func_behind name >>= (λ f. yield (tree.static f))) (named_func_behind name >>= (λ f. yield (tree.method f)))

-- name: func ..; or name: static func ..;
unfoldable pub method : Production ResourceFuncTree
method = do
  n ← id
  sign kind.Colon
  method_behind n

unfoldable pub resource_func : Production ResourceFuncTree
resource_func = branch kind.Constructor constructor_behind method

-- ; or { function .. }
unfoldable pub resource_funcs : Production (List (GatedTree ResourceFuncTree))
resource_funcs = branch kind.Semicolon (yield []) (sign kind.LeftBrace >> until (gated resource_func) kind.RightBrace)

-- name; or name { function .. }
unfoldable pub resource_behind : Production TypeDefTree
resource_behind = do
  n ← id
  branch kind.Semicolon (yield (record { name = n; kind = tree.resource [] }))
      (do
        sign kind.LeftBrace
        fs ← until (gated resource_func) kind.RightBrace
        yield (record { name = n; kind = tree.resource fs }))

abbrev pub record_behind : Production TypeDefTree
record_behind = parts field >>= defined_by tree.fields

abbrev pub flags_behind : Production TypeDefTree
flags_behind = parts label >>= defined_by tree.flags

abbrev pub enum_behind : Production TypeDefTree
enum_behind = parts label >>= defined_by tree.labels

abbrev pub variant_behind : Production TypeDefTree
variant_behind = parts case >>= defined_by tree.cases

abbrev pub type_def_at : What → Next TypeDefTree
type_def_at (plain kind.TypeKeyword) = goes alias_behind
type_def_at (plain kind.Record) = goes record_behind
type_def_at (plain kind.Flags) = goes flags_behind
type_def_at (plain kind.Enum) = goes enum_behind
type_def_at (plain kind.Variant) = goes variant_behind
type_def_at (plain kind.Resource) = goes resource_behind
type_def_at _ = none

-- ---- interfaces

abbrev pub defined : {X : Type 0} → (TypeDefTree → X) → What → Next X
defined made w = next_then (type_def_at w) (λ d. yield (made d))

-- a definition of a type, or a function
unfoldable pub definition : Production InterfaceItemTree
definition = by_or (defined tree.InterfaceItemTree.type_def) (named_func >>= (λ f. yield (tree.InterfaceItemTree.func f)))

unfoldable pub interface_item : Production InterfaceItemTree
interface_item = branch kind.Use (use_behind >>= (λ u. yield (tree.InterfaceItemTree.uses u))) definition

-- { item .. }
unfoldable pub interface_items : Production (List (GatedTree InterfaceItemTree))
interface_items = sign kind.LeftBrace >> until (gated interface_item) kind.RightBrace

-- name { item .. }
unfoldable pub interface_behind : Production InterfaceTree
interface_behind = do
  n ← id
  is ← interface_items
  yield (record { name = n; items = is })
