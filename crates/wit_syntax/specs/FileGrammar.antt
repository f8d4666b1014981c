-- The grammar of texts (WIT).
use Rattle.std.specs.Prelude.{Bool, true, false, List, [], ◌∷◌, Some, None}
use Rattle.wit_productions.specs.Passed.wit_words-declared-token-Kind-TheVariants as kind
use Rattle.wit_syntax.specs.Ast as tree
use Rattle.wit_syntax.specs.Ast.{PackageNameTree, GatedTree, ExternTree, IncludeNameTree, IncludeTree, WorldItemTree, WorldTree, AstItemTree, PackageTree, FileItemTree, OpeningTree, FirstTree, FileTree}
use Rattle.wit_productions.specs.Production.{Production, ◌>>=◌, ◌>>◌, yield, sign, branch, optional, documented, located, Next, none, goes, next_then, by, commas, until, many, all, at_end}
use Rattle.wit_productions.specs.Passed.wit_words-declared-source_map-Span.{Span}
use Rattle.wit_productions.specs.Passed.wit_words-Slice.{Slice}
use Rattle.wit_productions.specs.Terminal.{id}
use Rattle.wit_productions.specs.Passed.wit_words-Token.{What, plain}
use Rattle.wit_items.specs.ItemTree.{AttributeTree}
use Rattle.wit_items.specs.ItemGrammar.{attribute, gated, use_behind, toplevel_use_behind, func_behind, defined, interface_items, interface_behind}
pub use Rattle.wit_productions.specs.NameGrammar.{package_name, path_behind, use_path}

-- ---- worlds

-- (name: type, ..) -> type; behind the name of an import or export and func
unfoldable pub extern_func : Slice → Bool → Production ExternTree
extern_func name is_async = do
  f ← func_behind is_async
  sign kind.Semicolon
  yield (tree.ExternTree.func (record { name = name; func = f }))

-- what stands behind a name and a colon: interface { item .. }, func(..);, or package/name;
unfoldable pub extern_behind : Slice → Production ExternTree
extern_behind name = branch kind.Interface
    (interface_items >>= (λ is. yield (tree.ExternTree.interface (record { name = name; items = is }))))
    (branch kind.Async (sign kind.Func >> extern_func name true)
    (branch kind.Func (extern_func name false)
    (path_behind name >>= (λ p. sign kind.Semicolon >> yield (tree.ExternTree.path p)))))

-- name: interface { item .. }, name: func(..);, or path;
unfoldable pub extern_item : Production ExternTree
extern_item = do
  n ← id
  branch kind.Colon (extern_behind n) (sign kind.Semicolon >> yield (tree.ExternTree.path (tree.id n)))

-- name as other
unfoldable pub include_name : Production IncludeNameTree
include_name = do
  n ← id
  sign kind.As
  o ← id
  yield (record { name = n; other = o })

-- ; or with { name as other, .. }, which may have a semicolon behind it
unfoldable pub include_names : Production (List IncludeNameTree)
include_names = branch kind.With
    (do
      sign kind.LeftBrace
      ns ← commas include_name kind.RightBrace
      optional kind.Semicolon (yield (tt {0}))
      yield ns)
    (do
      sign kind.Semicolon
      yield [])

-- path; or path with { name as other, .. }, which may have a semicolon behind it
unfoldable pub include_behind : Production IncludeTree
include_behind = do
  p ← use_path
  branch kind.With
      (do
        sign kind.LeftBrace
        ns ← commas include_name kind.RightBrace
        optional kind.Semicolon (yield (tt {0}))
        yield (record { from = p; names = ns }))
      (do
        sign kind.Semicolon
        yield (record { from = p; names = [] }))

abbrev pub world_item_at : What → Next WorldItemTree
world_item_at (plain kind.Import) = goes (extern_item >>= (λ e. yield (tree.import e)))
world_item_at (plain kind.Export) = goes (extern_item >>= (λ e. yield (tree.export e)))
world_item_at (plain kind.Use) = goes (use_behind >>= (λ u. yield (tree.WorldItemTree.uses u)))
world_item_at (plain kind.Include) = goes (include_behind >>= (λ i. yield (tree.include i)))
world_item_at w = defined tree.WorldItemTree.type_def w

unfoldable pub world_item : Production WorldItemTree
world_item = by world_item_at

-- name { item .. }
unfoldable pub world_behind : Production WorldTree
world_behind = do
  n ← id
  sign kind.LeftBrace
  is ← until (gated world_item) kind.RightBrace
  yield (record { name = n; items = is })

-- ---- packages and files

abbrev pub ast_item_at : What → Next AstItemTree
ast_item_at (plain kind.Use) = goes (toplevel_use_behind >>= (λ u. yield (tree.AstItemTree.uses u)))
ast_item_at (plain kind.Interface) = goes (interface_behind >>= (λ i. yield (tree.AstItemTree.interface i)))
ast_item_at (plain kind.World) = goes (world_behind >>= (λ w. yield (tree.AstItemTree.world w)))
ast_item_at _ = none

unfoldable pub ast_item : Production AstItemTree
ast_item = by ast_item_at

-- { item .. } behind the name of a package
unfoldable pub package_items : PackageNameTree → Production PackageTree
package_items name = do
  sign kind.LeftBrace
  is ← until (gated ast_item) kind.RightBrace
  yield (record { name = name; items = is })

abbrev pub file_item_at : What → Next FileItemTree
file_item_at (plain kind.Package) = goes (package_name >>= (λ p. package_items p >>= (λ n. yield (tree.nested n))))
file_item_at w = next_then (ast_item_at w) (λ i. yield (tree.FileItemTree.item i))

unfoldable pub file_item : Production FileItemTree
file_item = by file_item_at

-- package name; or package name { item .. }, behind package
unfoldable pub package_opening : Production OpeningTree
package_opening = do
  p ← package_name
  branch kind.Semicolon (yield (tree.OpeningTree.header p)) (package_items p >>= (λ n. yield (tree.OpeningTree.item (tree.nested n))))

-- a package, or an item that is none
unfoldable pub opening : Production OpeningTree
opening = branch kind.Package package_opening (ast_item >>= (λ i. yield (tree.OpeningTree.item (tree.FileItemTree.item i))))

-- all attributes of an item, behind the `@` of the first
unfoldable pub gates : Production (List AttributeTree)
gates = do
  first ← attribute
  more ← many kind.At attribute
  yield (first ∷ more)

-- an item behind the `@` of its first attribute
unfoldable pub gated_first : Production FirstTree
gated_first = do
  first ← attribute
  more ← many kind.At attribute
  i ← located file_item
  yield (tree.FirstTree.item (first ∷ more) i.0 i.1)

abbrev pub without_gates : Span × OpeningTree → FirstTree
without_gates x = place x.0 x.1
  where
    place : Span → OpeningTree → FirstTree
    place span (tree.OpeningTree.header p) = tree.FirstTree.header p
    place span (tree.OpeningTree.item i) = tree.FirstTree.item [] span i

-- an item behind attributes, or a package or an item without any
unfoldable pub first : Production FirstTree
first = branch kind.At gated_first (located opening >>= (λ x. yield (without_gates x)))

abbrev pub file_of : List Slice → FirstTree → List (GatedTree FileItemTree) → FileTree
file_of docs (tree.FirstTree.header p) is = record { header = Some (record { docs = docs; name = p }); items = is }
file_of docs (tree.FirstTree.item attributes span i) is = record { header = None; items = record { docs = docs; attributes = attributes; item = i; span = span } ∷ is }

-- package name; item .. or item ..
unfoldable pub some_file : Production FileTree
some_file = do
  f ← documented first
  is ← all (gated file_item)
  yield (file_of f.0 f.1 is)

unfoldable pub file : Production FileTree
file = at_end (record { header = None; items = [] }) some_file
