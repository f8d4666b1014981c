-- What parted files stand for.
use Rattle.std.specs.Prelude.{◌≡◌, List, map}
use Rattle.wit_scopes.specs.Passed.wit_syntax-Ast.{FileTree}
use Rattle.wit_scopes.specs.Passed.wit_syntax-AstView as view
use Rattle.wit_nested.specs.declared.nested.PartedFiles.{PartedFiles}
use Rattle.wit_nested.specs.Nested.{own_files, nested_files}

pub record AreParted (files : List FileTree) (p : PartedFiles) : Type 0 where
  pub own_are : map view.file p.own.items ≡ own_files files
  pub nested_are : map view.file p.nested.items ≡ nested_files files
