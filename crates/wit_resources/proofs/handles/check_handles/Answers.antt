use Rattle.std.proofs.Common.{◌≡◌, [], List, Some, map, get_or, subst, ap, ◌∙◌, arith}
use Rattle.std.proofs.lemmas.Option.{slice_get-get_or}
use Rattle.std.specs.Prelude.{slice_get}
use Rattle.wit_words.specs.Slice.{Slice}
use Rattle.wit_rules.specs.Passed.wit_productions-declared-names-Id.{Id}
use Rattle.wit_rules.specs.Passed.wit_syntax-AstView as view
use Rattle.wit_rules.specs.Breaks.{Breaks, IsKept, AnyBreaks}
use Rattle.wit_rules.proofs.Breaking.{kept_more, all_kept, viewed_kept}
use Rattle.wit_resources.specs.Failing.{HandleFails}
use Rattle.wit_resources.proofs.handles.check_handles.Goals as goal

pub loop-name-preserved : goal.loop-name-preserved
loop-name-preserved c =
    let breaks_of : Id → Breaks = λ n. HandleFails c.args.natures.now c.args.table.now (view.id n) in
    let blank : Id = record { name = record { ref_ptr = (0, 0); now = [] }; span = record { start = 0; end = 0 } } in
    let name : Id = get_or c.deref-name-items.result.now c.loop-name.name-index blank in
    let there : slice_get c.deref-name-items.result.now c.loop-name.name-index ≡ Some name = slice_get-get_or c.deref-name-items.result.now c.loop-name.name-index blank c.loop-name-test.true in
    kept_more breaks_of c.deref-name-items.result.now c.loop-name.name-index name there c.loop-name.invariant c.in_ok-check_handle.ensures.ok

pub returns-clause-ok : goal.returns-clause-ok
returns-clause-ok c =
    let breaks_of : Slice → Breaks = HandleFails c.args.natures.now c.args.table.now in
    subst (λ (xs : List Slice). IsKept (AnyBreaks breaks_of xs)) (ap (map view.id) c.deref-name-items.ensures.value ∙ c.in_ok-names.ensures)
    (viewed_kept breaks_of view.id c.deref-name-items.result.now
    (all_kept (λ n. breaks_of (view.id n)) c.deref-name-items.result.now (λ k x less at. c.loop-name.invariant k x (omega (arith, less, c.loop-name-test.false)) at)))
