-- What the files of a package declare, as a value.
use Rattle.std.specs.Prelude.{◌≡◌, List, map}
use Rattle.wit_scopes.specs.Passed.wit_syntax-Ast.{PackageNameTree, FileTree}
use Rattle.wit_scopes.specs.Passed.wit_syntax-AstView as view
use Rattle.wit_scopes.specs.Paths.{file_uses}
use Rattle.wit_scopes.specs.Scopes.{package_scopes, package_docs}
use Rattle.wit_scopes.specs.View as scope_view
use Rattle.wit_rules.specs.declared.files.Declared.{Declared}
use Rattle.wit_rules.specs.Breaks.{IsKept}
use Rattle.wit_rules.specs.Facts.{IsDeclared, ScopesBreak}

-- what files of a package of that name declare
pub record AreScopes (me : PackageNameTree) (files : List FileTree) (d : Declared) : Type 0 where
  pub name_is : view.package_name d.name ≡ me
  pub docs_are : view.docs d.docs ≡ package_docs files
  pub uses_are : scope_view.uses d.uses.items ≡ file_uses files
  pub scopes_are : map scope_view.item_scope d.scopes.items ≡ package_scopes me files

-- besides, their interfaces and worlds break no rule
pub record AreScopesKept (me : PackageNameTree) (files : List FileTree) (d : Declared) : Type 0 where
  pub scopes : AreScopes me files d
  pub kept : IsKept (ScopesBreak (package_scopes me files))

-- what files declare that break no rule by themselves
pub record IsDeclaredOf (files : List FileTree) (d : Declared) : Type 0 where
  pub declared : IsDeclared files (view.package_name d.name) (map scope_view.item_scope d.scopes.items)
  pub docs_are : view.docs d.docs ≡ package_docs files
  pub uses_are : scope_view.uses d.uses.items ≡ file_uses files
