use Rattle.std.specs.Prelude.{string_bytes}
use Rattle.type_meaning.specs.Passed.component_value_types-declared-named-Named.{Named}
use Rattle.type_meaning.specs.Passed.component_value_types-declared-types-CaseType.{CaseType}
use Rattle.type_meaning.specs.Passed.component_value_types-Types.{case_value}
use Rattle.wit_types.specs.declared.kind.Case.{Case}
use Rattle.type_writing.proofs.Standing.{parts_next, labels_next, case_stands}
use Rattle.type_writing.proofs.parts.cases_of.Goals as goal

pub loop-case-preserved : goal.loop-case-preserved
loop-case-preserved g c =
    let S = g.S.ValtypeEncoder in
    let sink = c.args.sink.now in
    let cases = c.args.cases.now in
    let found = c.loop-case.found.items in
    let new = c.push.new.self.items in
    let y : Named CaseType = record { name = c.as_str.result; item = record { ty = c.in_ok-ty.ty } } in
    record {
      names = labels_next case_value (λ (x : Case). string_bytes x.name) cases found new c.loop-case.case-index c.case-item.result y c.loop-case-test.true c.case-item.is c.in_ok-push.ensures.items c.loop-case.invariant.names c.as_str.ensures.value;
      parts = λ types good. parts_next (S.setting sink).label types (S.space sink) (λ (x : Case). x.ty) (λ (n : Named CaseType). case_value n.item) cases found new c.loop-case.case-index c.case-item.result y
          c.loop-case-test.true c.case-item.is c.in_ok-push.ensures.items (c.loop-case.invariant.parts types good) (case_stands (S.setting sink).label types (S.space sink) c.case-item.result.ty c.in_ok-ty.ty (c.in_ok-ty.ensures.stands types good));
    }
