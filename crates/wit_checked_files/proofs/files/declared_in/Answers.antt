use Rattle.std.proofs.Common.{List, map}
use Rattle.wit_syntax.specs.Ast.{FileTree}
use Rattle.wit_syntax.specs.AstView as view
use Rattle.wit_scopes.specs.Scopes.{package_scopes}
use Rattle.wit_rules.specs.Breaks.{IsFaultOf}
use Rattle.wit_rules.specs.Facts.{IsNamed, ScopesBreak, FilesBreak, in_package, by_scopes}
use Rattle.wit_rules.specs.DeclaredView.{AreScopesKept, IsDeclaredOf}
use Rattle.wit_rules.proofs.Breaking.{widened}
use Rattle.wit_checked_files.proofs.Declaring.{declared_of}
use Rattle.wit_scopes.proofs.Outcomes.{if_ok, if_err}
use Rattle.wit_checked_files.proofs.files.declared_in.Goals as goal

pub returns-in-Ok-clause-ok : goal.returns-in-Ok-clause-ok
returns-in-Ok-clause-ok c =
    let files : List FileTree = map view.file c.args.files.items in
    let me = view.package_name c.in-Ok.name in
    let named : IsNamed files me = c.in-Ok.ensures.ok in
    if_ok c.checked_scopes.result (AreScopesKept me files) (IsDeclaredOf files) (λ d h. declared_of files me d named h) c.checked_scopes.ensures.ok

pub returns-in-Ok-clause-cause : goal.returns-in-Ok-clause-cause
returns-in-Ok-clause-cause c =
    let files : List FileTree = map view.file c.args.files.items in
    let me = view.package_name c.in-Ok.name in
    let named : IsNamed files me = c.in-Ok.ensures.ok in
    if_err c.checked_scopes.result (IsFaultOf (ScopesBreak (package_scopes me files))) (IsFaultOf (FilesBreak files)) (widened (ScopesBreak (package_scopes me files)) (FilesBreak files) (λ rule at b. in_package me named.named (by_scopes b))) c.checked_scopes.ensures.cause
