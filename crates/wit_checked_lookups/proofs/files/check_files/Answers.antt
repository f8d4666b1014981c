use Rattle.std.proofs.Common.{◌≡◌, ◌<◌, List, map, length, rules, arith, subst}
use Rattle.std.specs.Prelude.{IfErr}
use Rattle.wit_items.specs.declared.items.ToplevelUse.{ToplevelUse}
use Rattle.wit_syntax.specs.Ast.{ToplevelUseTree}
use Rattle.wit_syntax.specs.AstView as view
use Rattle.wit_scopes.specs.View.{item_scope, uses}
use Rattle.wit_scopes.proofs.Outcomes.{if_err}
use Rattle.wit_rules.specs.Breaks.{Breaks, IsKept, IsFaultOf, AnyBreaks}
use Rattle.wit_lookups.specs.Lookups.{FileBreaks}
use Rattle.wit_lookups.proofs.Loops.{kept_on, kept_through, refused_at}
use Rattle.wit_checked_lookups.proofs.files.check_files.Goals as goal

pub returns-in_err-check_file-clause-cause : goal.returns-in_err-check_file-clause-cause
returns-in_err-check_file-clause-cause c =
    let breaks_of : List ToplevelUseTree → Breaks = FileBreaks (view.package_name c.args.me.now) (map item_scope c.args.scopes.now) in
    let within : c.loop-uses.uses-index < length c.args.files.now = search rules in
    if_err c.from_residual.result (IsFaultOf (breaks_of (map view.toplevel_use c.uses-item.result.items))) (IsFaultOf (AnyBreaks breaks_of (uses c.args.files.now)))
    (refused_at breaks_of (λ us. map view.toplevel_use us.items) c.args.files.now c.loop-uses.uses-index c.uses-item.result within c.uses-item.is) (search rules)

pub loop-uses-preserved : goal.loop-uses-preserved
loop-uses-preserved c =
    let breaks_of : List ToplevelUseTree → Breaks = FileBreaks (view.package_name c.args.me.now) (map item_scope c.args.scopes.now) in
    let within : c.loop-uses.uses-index < length c.args.files.now = search rules in
    let kept : IsKept (breaks_of (map view.toplevel_use c.uses-item.result.items)) = subst (λ (us : List ToplevelUse). IsKept (breaks_of (map view.toplevel_use us))) c.as_slice.ensures.value c.in_ok-check_file.ensures.ok in
    kept_on breaks_of (λ us. map view.toplevel_use us.items) c.args.files.now c.loop-uses.uses-index c.uses-item.result within c.uses-item.is c.loop-uses.invariant kept

pub returns-clause-ok : goal.returns-clause-ok
returns-clause-ok c =
    kept_through (FileBreaks (view.package_name c.args.me.now) (map item_scope c.args.scopes.now)) (λ us. map view.toplevel_use us.items) c.args.files.now c.loop-uses.uses-index (omega (arith, c.loop-uses-test.false)) c.loop-uses.invariant
