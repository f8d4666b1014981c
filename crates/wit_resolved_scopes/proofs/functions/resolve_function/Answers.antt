use Rattle.std.proofs.Common.{List, Option, subst}
use Rattle.std.specs.Prelude.{OnOk, IfErr}
use Rattle.wit_lookups.specs.Passed.wit_productions-TypeTree.{TypeTree}
use Rattle.wit_lookups.specs.Passed.wit_scopes-Members.{MemberTree}
use Rattle.wit_lookups.specs.Passed.wit_scopes-View as scope_view
use Rattle.wit_lookups.proofs.Passed.wit_scopes-Outcomes.{and_err, if_err}
use Rattle.wit_lookups.specs.Passed.wit_rules-Breaks.{Breaks, IsKept, IsFaultOf}
use Rattle.wit_resources.specs.Natures.{natures}
use Rattle.wit_resources.specs.declared.natures.Nature.{Nature}
use Rattle.wit_resources.specs.Failing.{ResultFails}
use Rattle.wit_resources.specs.Rules.{type_span, declared_result, PartBreaks, ResultBreaks}
use Rattle.wit_resolved_scopes.proofs.Results.{function_extends, first_known, result_kept, result_breaks, part_kept, part_breaks, and_on}
use Rattle.wit_resolved_scopes.proofs.functions.resolve_function.Goals as goal

pub catch_up-requires : goal.catch_up-requires
catch_up-requires c =
    first_known c.args.types.now c.lower_function.new.types c.args.natures.now
    (function_extends c.args.table.now c.args.types.now c.lower_function.new.types (scope_view.member c.args.member.now) c.in_ok-function.function c.in_ok-function.ensures) c.requires.natures

pub returns-clause-kept : goal.returns-clause-kept
returns-clause-kept c = λ me scopes owners o stands.
    let m : MemberTree = scope_view.member c.args.member.now in
    let result : Option TypeTree = declared_result m.kind in
    let fails : List Nature → TypeTree → Breaks = λ ns e. ResultFails ns c.in_ok-function.function.result (type_span e) in
    rw c.and.ensures (and_on c.check_function.result c.in_ok-function.function
    (part_kept result (fails (natures c.lower_function.new.types)) (ResultBreaks me scopes o)
    (λ e is. result_kept me scopes owners o c.args.table.now c.args.types.now c.lower_function.new.types m c.in_ok-function.function stands c.in_ok-function.ensures e is))
    (subst (λ (ns : List Nature). OnOk c.check_function.result (IsKept (PartBreaks (fails ns) result))) c.in_ok-catch_up.ensures c.check_function.ensures.ok))

pub returns-clause-cause : goal.returns-clause-cause
returns-clause-cause c = λ me scopes owners o stands.
    let m : MemberTree = scope_view.member c.args.member.now in
    let result : Option TypeTree = declared_result m.kind in
    let fails : List Nature → TypeTree → Breaks = λ ns e. ResultFails ns c.in_ok-function.function.result (type_span e) in
    rw c.and.ensures (and_err c.check_function.result c.in_ok-function.function (IsFaultOf (PartBreaks (ResultBreaks me scopes o) result))
    (if_err c.check_function.result (IsFaultOf (PartBreaks (fails (natures c.lower_function.new.types)) result)) (IsFaultOf (PartBreaks (ResultBreaks me scopes o) result))
    (part_breaks result (fails (natures c.lower_function.new.types)) (ResultBreaks me scopes o)
    (λ e rule at is. result_breaks me scopes owners o c.args.table.now c.args.types.now c.lower_function.new.types m c.in_ok-function.function stands c.in_ok-function.ensures e rule at is))
    (subst (λ (ns : List Nature). IfErr c.check_function.result (IsFaultOf (PartBreaks (fails ns) result))) c.in_ok-catch_up.ensures c.check_function.ensures.cause)))
