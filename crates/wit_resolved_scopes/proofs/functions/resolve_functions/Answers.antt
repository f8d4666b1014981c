use Rattle.std.proofs.Common.{◌≡◌, List, [], Some, take, sym, ap, subst, ◌∙◌, arith}
use Rattle.std.specs.Prelude.{slice_get, option_map}
use Rattle.std.proofs.lemmas.Option.{slice_get-map}
use Rattle.wit_types.specs.declared.function.Function.{Function}
use Rattle.wit_lookups.specs.Passed.wit_scopes-Members.{MemberTree}
use Rattle.wit_lookups.specs.Passed.wit_scopes-View as scope_view
use Rattle.wit_lookups.specs.Passed.wit_rules-Breaks.{Breaks}
use Rattle.wit_lookups.proofs.Passed.wit_rules-Places.{read_at, taken}
use Rattle.wit_resources.specs.Rules.{declared_result, PartBreaks, ResultBreaks}
use Rattle.wit_lookups.proofs.Loops.{kept_on, kept_through, refused_at}
use Rattle.wit_resolved_scopes.specs.Scope.{LowersFunctions, no_members, one_more}
use Rattle.wit_resolved_scopes.proofs.Following.{functions_stand}
use Rattle.wit_resolved_scopes.proofs.functions.resolve_functions.Goals as goal

pub loop-member-init : goal.loop-member-init
loop-member-init c = (
  subst (λ (fs : List Function). LowersFunctions c.args.table.now c.args.types.now [] c.args.types.now fs) (sym c.new-functions.ensures.items) no_members,
  c.requires.natures,
  λ me scopes owners o stands k x less at. absurd (omega (arith, less)),
)

pub add_function-requires-clause-names : goal.add_function-requires-clause-names
add_function-requires-clause-names c =
    c.requires.names (scope_view.member c.member-item.result)
    (c.loop-member.member-index, slice_get-map scope_view.member c.args.members.now c.loop-member.member-index ∙ ap (option_map scope_view.member) (read_at c.args.members.now c.loop-member.member-index c.member-item.result c.loop-member-test.true c.member-item.is))

pub add_function-requires-clause-gates : goal.add_function-requires-clause-gates
add_function-requires-clause-gates c =
    c.requires.gates (scope_view.member c.member-item.result)
    (c.loop-member.member-index, slice_get-map scope_view.member c.args.members.now c.loop-member.member-index ∙ ap (option_map scope_view.member) (read_at c.args.members.now c.loop-member.member-index c.member-item.result c.loop-member-test.true c.member-item.is))

pub returns-in-Err-clause-cause : goal.returns-in-Err-clause-cause
returns-in-Err-clause-cause c = λ me scopes owners o stands.
    let breaks_of : MemberTree → Breaks = λ m. PartBreaks (ResultBreaks me scopes o) (declared_result m.kind) in
    let here = functions_stand me scopes owners o c.args.table.now c.args.types.now c.loop-member.types (take c.loop-member.member-index (scope_view.members c.args.members.now)) c.loop-member.functions.items stands c.loop-member.invariant.0 in
    refused_at breaks_of scope_view.member c.args.members.now c.loop-member.member-index c.member-item.result c.loop-member-test.true c.member-item.is c.in-Err.fault (c.in-Err.ensures.cause me scopes owners o here)

pub loop-member-preserved : goal.loop-member-preserved
loop-member-preserved c =
    let ms : List MemberTree = scope_view.members c.args.members.now in
    let i = c.loop-member.member-index in
    let there : slice_get ms i ≡ Some (scope_view.member c.member-item.result) =
    slice_get-map scope_view.member c.args.members.now i ∙ ap (option_map scope_view.member) (read_at c.args.members.now i c.member-item.result c.loop-member-test.true c.member-item.is) in (
      subst (λ (ns : List MemberTree). LowersFunctions c.args.table.now c.args.types.now ns c.add_function.new.types c.add_function.new.functions.items) (sym (taken ms i (scope_view.member c.member-item.result) there))
          (one_more (take i ms) (scope_view.member c.member-item.result) c.loop-member.types c.add_function.new.types c.loop-member.functions.items c.add_function.new.functions.items c.loop-member.invariant.0 c.in_default.ensures.adds),
      c.in_default.ensures.natures,
      λ me scopes owners o stands.
          let breaks_of : MemberTree → Breaks = λ m. PartBreaks (ResultBreaks me scopes o) (declared_result m.kind) in
          let here = functions_stand me scopes owners o c.args.table.now c.args.types.now c.loop-member.types (take i ms) c.loop-member.functions.items stands c.loop-member.invariant.0 in
          kept_on breaks_of scope_view.member c.args.members.now i c.member-item.result c.loop-member-test.true c.member-item.is (c.loop-member.invariant.2 me scopes owners o stands) (c.in_default.ensures.kept me scopes owners o here),
    )

pub returns-clause-kept : goal.returns-clause-kept
returns-clause-kept c = λ me scopes owners o stands.
    let breaks_of : MemberTree → Breaks = λ m. PartBreaks (ResultBreaks me scopes o) (declared_result m.kind) in
    kept_through breaks_of scope_view.member c.args.members.now c.loop-member.member-index (omega (arith, c.loop-member-test.false)) (c.loop-member.invariant.2 me scopes owners o stands)
