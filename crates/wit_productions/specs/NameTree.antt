-- Names of packages and paths, without where they lie in memory (WIT, Package Names).
use Rattle.std.specs.Prelude.{Option}
use Rattle.wit_tokens.specs.Passed.wit_words-Slice.{Slice}

-- namespace:name@version
pub record PackageNameTree : Type 0 where
  pub namespace : Slice
  pub name : Slice
  pub version : Option Slice

-- name, or namespace:package/name@version
pub data UsePathTree : Type 0 where
  id : Slice → UsePathTree
  in_package : PackageNameTree → Slice → UsePathTree
