use Rattle.std.proofs.Common.{List, map, subst}
use Rattle.std.specs.Prelude.{IfErr}
use Rattle.wit_syntax.specs.Ast.{FileTree}
use Rattle.wit_syntax.specs.AstView as view
use Rattle.wit_scopes.specs.Scopes.{ItemScope, package_scopes}
use Rattle.wit_rules.specs.Breaks.{IsKept, IsFaultOf}
use Rattle.wit_rules.specs.Facts.{ScopesBreak}
use Rattle.wit_rules.specs.DeclaredView.{AreScopes, AreScopesKept}
use Rattle.wit_scopes.proofs.Outcomes.{and_ok, and_err}
use Rattle.wit_checked_files.proofs.files.checked_scopes.Goals as goal

pub returns-in-Ok-clause-ok : goal.returns-in-Ok-clause-ok
returns-in-Ok-clause-ok c =
    let files : List FileTree = map view.file c.args.files.items in
    let me = view.package_name c.args.name in
    let are : AreScopes me files c.in-Ok.declared = c.in-Ok.ensures.ok in
    rw c.and.ensures
    (and_ok c.check_scopes.result c.in-Ok.declared (AreScopesKept me files) (λ kept. record { scopes = are; kept = subst (λ (ss : List ItemScope). IsKept (ScopesBreak ss)) are.scopes_are kept }) c.check_scopes.ensures.ok)

pub returns-in-Ok-clause-cause : goal.returns-in-Ok-clause-cause
returns-in-Ok-clause-cause c =
    let files : List FileTree = map view.file c.args.files.items in
    let me = view.package_name c.args.name in
    let are : AreScopes me files c.in-Ok.declared = c.in-Ok.ensures.ok in
    rw c.and.ensures
    (and_err c.check_scopes.result c.in-Ok.declared (IsFaultOf (ScopesBreak (package_scopes me files))) (subst (λ (ss : List ItemScope). IfErr c.check_scopes.result (IsFaultOf (ScopesBreak ss))) are.scopes_are c.check_scopes.ensures.cause))
