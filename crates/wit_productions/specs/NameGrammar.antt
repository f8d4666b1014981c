-- The grammar of names of packages and of paths (WIT, Package Names).
use Rattle.wit_tokens.specs.Passed.wit_words-declared-token-Kind-TheVariants as kind
use Rattle.wit_tokens.specs.Passed.wit_words-Slice.{Slice}
use Rattle.wit_productions.specs.NameTree as tree
use Rattle.wit_productions.specs.NameTree.{PackageNameTree, UsePathTree}
use Rattle.wit_productions.specs.Production.{Production, ◌>>=◌, ◌>>◌, yield, sign, branch, optional, finish}
use Rattle.wit_productions.specs.Terminal.{id, version}

-- name@version or name, behind a namespace and a colon
unfoldable pub package_behind : Slice → Production PackageNameTree
package_behind namespace = do
  n ← id
  v ← optional kind.At version
  yield (record { namespace = namespace; name = n; version = v })

-- namespace:name@version or namespace:name
unfoldable pub package_name : Production PackageNameTree
package_name = do
  n ← id
  sign kind.Colon
  package_behind n

-- package/name@version or package/name, behind a namespace and a colon
unfoldable pub path_behind : Slice → Production UsePathTree
path_behind namespace = do
  p ← id
  sign kind.Slash
  n ← id
  v ← optional kind.At version
  yield (tree.in_package (record { namespace = namespace; name = p; version = v }) n)

-- name, or namespace:package/name@version
unfoldable pub use_path : Production UsePathTree
use_path = do
  n ← id
  branch kind.Colon (path_behind n) (yield (tree.id n))

-- ---- whole texts

-- a path, and nothing behind it
unfoldable pub whole_use_path : Production UsePathTree
whole_use_path = do
  p ← use_path
  finish p
