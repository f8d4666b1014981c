use Rattle.wit_syntax.specs.AstView as view
use Rattle.wit_placeholders.specs.Passed.wit_foreign-View as asked
use Rattle.wit_package.specs.TopUses.{top_needs}
use Rattle.wit_package.proofs.Among.{row_more}
use Rattle.wit_package.proofs.top_uses.add_needs.Goals as goal

pub loop-statement-preserved : goal.loop-statement-preserved
loop-statement-preserved c = λ needs are.
    row_more (top_needs (view.package_name c.args.me.now) needs) view.toplevel_use (asked.needs c.args.found.now.items) c.args.statements.now c.loop-statement.statement-index _
    (asked.needs c.add_need.new.found.items) (asked.needs c.loop-statement.found.items) c.loop-statement-test.true (c.in_ok-add_need.ensures needs are) (c.loop-statement.invariant needs are)
