use Rattle.std.proofs.Common.{◌≡◌, List, ap, sym, subst, ◌∙◌, rules}
use Rattle.std.specs.Prelude.{Vec}
use Rattle.std.specs.declared.alloc.Global.{Global}
use Rattle.wit_syntax.specs.Ast.{FileTree}
use Rattle.wit_syntax.specs.declared.ast.File.{File}
use Rattle.wit_scopes.proofs.Outcomes.{if_err}
use Rattle.wit_nested.specs.Nested.{nested_files}
use Rattle.wit_package.specs.Group.{OneIsRefused, AreRefused, by_nested}
use Rattle.wit_package.specs.GroupView as seen
use Rattle.wit_package.proofs.group.packages_of.Goals as goal

pub returns-in_err-nested-clause-cause : goal.returns-in_err-nested-clause-cause
returns-in_err-nested-clause-cause c =
    let files : List FileTree = seen.trees c.args.files.items in
    let are : seen.trees c.in_ok-own.nested.items ≡ nested_files files = ap (λ (v : Vec File Global). seen.trees v.items) (sym c.in_ok-own.nested-is) ∙ c.in_ok-own.ensures.nested_are in
    if_err c.from_residual-in_err-nested.result (OneIsRefused (seen.trees c.in_ok-own.nested.items)) (AreRefused files)
    (λ f h. by_nested (subst (λ (fs : List FileTree). OneIsRefused fs f) are h)) (search rules)
