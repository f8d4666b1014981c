use Rattle.std.proofs.Common.{List, subst}
use Rattle.wit_lookups.specs.Passed.wit_scopes-Members.{MemberTree}
use Rattle.wit_lookups.specs.Passed.wit_scopes-View as scope_view
use Rattle.wit_lookups.specs.Passed.wit_rules-Breaks.{IsKept, IsFaultOf}
use Rattle.wit_resources.specs.declared.natures.Nature.{Nature}
use Rattle.wit_resolved_scopes.specs.Faults.{MembersFail}
use Rattle.wit_resolved_scopes.proofs.Readying.{fillable, names_there, handles_there, table_distinct}
use Rattle.wit_resolved_scopes.proofs.Scoping.{stands_filled, members_fault, results_fault, scope_kept}
use Rattle.wit_resolved_scopes.proofs.scope.resolve_scope.Goals as goal

pub fill_sorted-requires-clause-ready : goal.fill_sorted-requires-clause-ready
fill_sorted-requires-clause-ready c = fillable c.args.known.now (scope_view.members c.args.declared.now) (scope_view.members c.args.members.now) c.requires.ready

pub check_members-requires-clause-there : goal.check_members-requires-clause-there
check_members-requires-clause-there c =
    handles_there c.args.known.now (scope_view.members c.args.declared.now) (scope_view.members c.args.members.now) c.requires.ready c.args.owner c.args.types.now c.fill_sorted.new.types c.in_ok-table.table c.in_ok-table.ensures.fills

pub check_members-requires-clause-distinct : goal.check_members-requires-clause-distinct
check_members-requires-clause-distinct c =
    table_distinct c.args.known.now (scope_view.members c.args.declared.now) (scope_view.members c.args.members.now) c.requires.ready c.args.owner c.args.types.now c.fill_sorted.new.types c.in_ok-table.table c.in_ok-table.ensures.fills

pub resolve_functions-requires-clause-names : goal.resolve_functions-requires-clause-names
resolve_functions-requires-clause-names c =
    names_there c.args.known.now (scope_view.members c.args.declared.now) (scope_view.members c.args.members.now) c.requires.ready c.args.owner c.args.types.now c.fill_sorted.new.types c.in_ok-table.table c.in_ok-table.ensures.fills

pub returns-in-Err-clause-cause : goal.returns-in-Err-clause-cause
returns-in-Err-clause-cause c = λ me scopes owners o may.
    let types : List MemberTree = scope_view.members c.args.declared.now in
    let ms : List MemberTree = scope_view.members c.args.members.now in
    members_fault me scopes owners o c.args.owner c.args.known.now types ms c.args.types.now c.fill_sorted.new.types c.in_ok-table.table may c.in_ok-table.ensures.fills c.in-Err.fault
    (subst (λ (ns : List Nature). IsFaultOf (MembersFail ns c.in_ok-table.table types ms) c.in-Err.fault) c.in_ok-table.ensures.natures c.in-Err.ensures.cause)

pub returns-in-Ok-clause-kept : goal.returns-in-Ok-clause-kept
returns-in-Ok-clause-kept c = λ me scopes owners o may.
    let types : List MemberTree = scope_view.members c.args.declared.now in
    let ms : List MemberTree = scope_view.members c.args.members.now in
    let stands = stands_filled me scopes owners o c.args.owner c.args.known.now types ms c.args.types.now c.fill_sorted.new.types c.in_ok-table.table may c.in_ok-table.ensures.fills in
    scope_kept me scopes owners o c.args.owner c.args.known.now types ms c.args.types.now c.fill_sorted.new.types c.in_ok-table.table may c.in_ok-table.ensures.fills c.requires.ready c.in_ok-table.ensures.kept
    (subst (λ (ns : List Nature). IsKept (MembersFail ns c.in_ok-table.table types ms)) c.in_ok-table.ensures.natures c.in_default.ensures.ok)
    (c.in-Ok.ensures.kept me scopes owners o stands)

pub returns-clause-cause : goal.returns-clause-cause
returns-clause-cause c = λ me scopes owners o may.
    let types : List MemberTree = scope_view.members c.args.declared.now in
    let ms : List MemberTree = scope_view.members c.args.members.now in
    let stands = stands_filled me scopes owners o c.args.owner c.args.known.now types ms c.args.types.now c.fill_sorted.new.types c.in_ok-table.table may c.in_ok-table.ensures.fills in
    results_fault me scopes owners o c.args.owner c.args.known.now types ms c.args.types.now c.fill_sorted.new.types c.in_ok-table.table may c.in_ok-table.ensures.fills c.in-Err-resolve_functions.fault
    (c.in-Err-resolve_functions.ensures.cause me scopes owners o stands)
