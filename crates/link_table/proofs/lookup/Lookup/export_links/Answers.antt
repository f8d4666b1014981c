use Rattle.std.proofs.Common.{map, inl}
use Rattle.std.proofs.lemmas.Result.{err_from_is_err_and}
use Rattle.link_table.specs.Linking.{linking_value}
use Rattle.link_table.specs.View.{IsExportLink}
use Rattle.link_table.proofs.Pairwise.{next_pair}
use Rattle.link_table.proofs.Walks.{function_at_place, function_has, take_step}
use Rattle.link_table.proofs.lookup.Lookup.export_links.Goals as goal

pub export_link-requires-clause-function : goal.export_link-requires-clause-function
export_link-requires-clause-function c = c.requires.function c.function-item.result.now (function_has c.args.functions.now c.loop-function.function-index c.function-item.result c.loop-function-test.true c.function-item.is)

pub returns-in_err-export_link-clause-cause : goal.returns-in_err-export_link-clause-cause
returns-in_err-export_link-clause-cause c =
    let moved = err_from_is_err_and c.from_residual.result c.from_residual.ensures.1 in
    rw (moved.1, moved.2)
    (inl (c.function-item.result.now, function_has c.args.functions.now c.loop-function.function-index c.function-item.result c.loop-function-test.true c.function-item.is, c.in_err-export_link.ensures.cause))

pub loop-function-preserved : goal.loop-function-preserved
loop-function-preserved c =
    let at = function_at_place c.args.functions.now c.loop-function.function-index c.function-item.result c.loop-function-test.true c.function-item.is in
    next_pair (IsExportLink (linking_value c.args.self.now.linking)) _ _ c.function-item.result.now _ _ c.in_ok-export_link.field-0 (take_step (map (λ f. f.now) c.args.functions.now) c.loop-function.function-index c.function-item.result.now at)
    c.in_ok-push.ensures.items c.loop-function.invariant c.in_ok-export_link.ensures.link
