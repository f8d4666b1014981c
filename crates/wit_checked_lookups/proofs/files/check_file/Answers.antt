use Rattle.std.proofs.Common.{map, arith}
use Rattle.wit_syntax.specs.AstView as view
use Rattle.wit_scopes.specs.View.{item_scope}
use Rattle.wit_lookups.specs.Lookups.{TopUseBreaks}
use Rattle.wit_lookups.proofs.Loops.{kept_at, kept_through, refused_there}
use Rattle.wit_checked_lookups.proofs.files.check_file.Goals as goal

pub returns-in-Err-clause-cause : goal.returns-in-Err-clause-cause
returns-in-Err-clause-cause c =
    refused_there (TopUseBreaks (view.package_name c.args.me.now) (map item_scope c.args.scopes.now)) view.toplevel_use c.args.uses.now c.loop-item.item-index _ c.loop-item-test.true c.in-Err.fault c.in-Err.ensures.cause

pub loop-item-preserved : goal.loop-item-preserved
loop-item-preserved c =
    kept_at (TopUseBreaks (view.package_name c.args.me.now) (map item_scope c.args.scopes.now)) view.toplevel_use c.args.uses.now c.loop-item.item-index _ c.loop-item-test.true c.loop-item.invariant c.in_default.ensures.ok

pub returns-clause-ok : goal.returns-clause-ok
returns-clause-ok c =
    kept_through (TopUseBreaks (view.package_name c.args.me.now) (map item_scope c.args.scopes.now)) view.toplevel_use c.args.uses.now c.loop-item.item-index (omega (arith, c.loop-item-test.false)) c.loop-item.invariant
