use Rattle.std.proofs.Common.{inl, refl, subst}
use Rattle.wit_core_names.specs.Items.{CoreExport}
use Rattle.link_table.specs.Coming.{IsSomewhere}
use Rattle.link_table.specs.Options.{NamesOf, IsMissing}
use Rattle.link_table.specs.Linking.{linking_value}
use Rattle.link_table.proofs.Walks.{function_has, post_returns_next, post_returns_all}
use Rattle.link_table.proofs.lookup.Lookup.check_post_returns.Goals as goal

pub returns-then-branch-clause-cause : goal.returns-then-branch-clause-cause
returns-then-branch-clause-cause c =
    let f = c.function-item.result in
    inl (refl, (f.now, function_has c.args.functions.now c.loop-function.function-index f c.loop-function-test.true c.function-item.is, subst (λ (x : CoreExport). IsSomewhere (linking_value c.args.self.now.linking) (NamesOf (linking_value c.args.self.now.linking).names x)) c.own_export.ensures (c.in_ok-is_exported.ensures.yes c.if-branch.true)))

pub loop-function-preserved : goal.loop-function-preserved
loop-function-preserved c =
    let f = c.function-item.result in
    post_returns_next (linking_value c.args.self.now.linking) c.args.functions.now c.loop-function.function-index f c.loop-function-test.true c.function-item.is c.loop-function.invariant (subst (λ (x : CoreExport). IsMissing (linking_value c.args.self.now.linking) (NamesOf (linking_value c.args.self.now.linking).names x)) c.own_export.ensures (c.in_ok-is_exported.ensures.no c.if-branch.false))

pub returns-clause-none : goal.returns-clause-none
returns-clause-none c = post_returns_all (linking_value c.args.self.now.linking) c.args.functions.now c.loop-function.function-index c.loop-function-test.false c.loop-function.invariant
