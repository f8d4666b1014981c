-- What files declare that keep the rules of their headers, names, interfaces and worlds.
use Rattle.std.proofs.Common.{List, map, sym, subst}
use Rattle.wit_syntax.specs.Ast.{PackageNameTree, FileTree}
use Rattle.wit_scopes.specs.View as scope_view
use Rattle.wit_rules.specs.declared.files.Declared.{Declared}
use Rattle.wit_rules.specs.Facts.{IsNamed, IsDeclared}
use Rattle.wit_rules.specs.DeclaredView.{AreScopesKept, IsDeclaredOf}
use Rattle.wit_checked_files.proofs.Kept.{declared_kept}

pub declared_of : (files : List FileTree) (me : PackageNameTree) (d : Declared) → IsNamed files me → AreScopesKept me files d → IsDeclaredOf files d
declared_of files me d by h = record {
  declared = subst (λ (p : PackageNameTree). IsDeclared files p (map scope_view.item_scope d.scopes.items)) (sym h.scopes.name_is) (declared_kept files me (map scope_view.item_scope d.scopes.items) by h.scopes.scopes_are h.kept);
  docs_are = h.scopes.docs_are;
  uses_are = h.scopes.uses_are;
}
