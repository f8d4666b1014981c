use Rattle.std.proofs.Common.{ap, get_or}
use Rattle.wit_features.specs.Passed.wit_types-declared-kind-Case.{Case}
use Rattle.wit_moves.specs.Moved.{moved_case}
use Rattle.wit_moves.proofs.Mapped.{mapped_more, mapped_all}
use Rattle.wit_moves.proofs.kinds.move_cases.Goals as goal

pub loop-case-preserved : goal.loop-case-preserved
loop-case-preserved g c =
    let x : Case = get_or c.loop-case.cases c.loop-case.case-index c.case-item.result in
    mapped_more (moved_case (g.M.TypeMap.goes c.args.ids.now)) c.loop-case.case-index c.args.cases.now c.loop-case.cases c.case-item.result _ c.loop-case.invariant c.loop-case-test.true (ap (λ t. record x { ty = t }) c.moved_part-case.ensures)

pub returns : goal.returns
returns g c = mapped_all (moved_case (g.M.TypeMap.goes c.args.ids.now)) c.loop-case.case-index c.args.cases.now c.loop-case.cases c.loop-case.invariant c.loop-case-test.false
